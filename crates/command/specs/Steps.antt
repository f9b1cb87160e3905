-- How many steps a word asks for.
use Rattle.std.specs.Prelude.{ℕ, cond, List, Some, None, Option, nat_le}
use Rattle.columns.specs.Numbers.{column_value}

-- at most a million
abbrev pub few : Option ℕ → Option ℕ
few None = None
few (Some n) = cond (nat_le n 1000000) (Some n) None

abbrev pub steps_of : List ℕ → Option ℕ
steps_of s = few (column_value s)
