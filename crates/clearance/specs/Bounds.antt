-- The bounds that an operand is held to, by number.
use Rattle.std.specs.Prelude.{ℕ}
use Rattle.clearance.specs.declared.leak.Bound.{Bound}
use Rattle.clearance.specs.declared.leak.Bound.TheVariants.{Listener, Array, Unnamed}

-- 0 is the listener's level, 1 that of the array written; an unnamed bound has a number above 1, so no two bounds have the same.
abbrev pub bound_number : Bound → ℕ
bound_number Listener = 0
bound_number Array = 1
bound_number (Unnamed b) = b.number
