-- Which places have been seen.
use Rattle.std.specs.Prelude.{ℕ, Bool, cond, List, sum_by}

-- How many places have not been seen.
abbrev pub unseen : List Bool → ℕ
unseen xs = sum_by (λ b. cond b 0 1) xs
