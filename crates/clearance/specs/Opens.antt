-- Whether a name is open at a point.
use Rattle.std.specs.Prelude.{ℕ, Bool}
use Rattle.levels.specs.Names.{has}
use Rattle.reach.specs.declared.opens.OpenNames.{OpenNames}
use Rattle.reach.specs.Opens.{open_at}

abbrev pub opens_of : OpenNames → ℕ → ℕ → Bool
opens_of o p x = has (open_at o p) x
