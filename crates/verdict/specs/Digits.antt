-- Level digits: 0 is public and 1 is secret.
use Rattle.std.specs.Prelude.{ℕ, ◌+◌, Bool, cond, ◌||◌, List, [], ◌∷◌, Some, None, Option, ◌==◌}
use Rattle.levels.specs.declared.secrecy.Secrecy.{Secrecy}
use Rattle.levels.specs.declared.secrecy.Secrecy.TheVariants.{Public, Secret}

abbrev pub is_digit : ℕ → Bool
is_digit b = b == 48 || b == 49

abbrev pub level_of : ℕ → Secrecy
level_of b = cond (b == 49) Secret Public

-- The place of the first byte that is no level digit, counted from i.
abbrev pub first_wrong : ℕ → List ℕ → Option ℕ
first_wrong i [] = None
first_wrong i (b ∷ bs) = cond (is_digit b) (first_wrong (i + 1) bs) (Some i)
