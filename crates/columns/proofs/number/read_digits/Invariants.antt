use Rattle.std.proofs.Common.{◌≡◌, drop}
use Rattle.columns.specs.Numbers.{digits_value}
use Rattle.columns.proofs.number.read_digits.Given as goal

abbrev pub invariant-loop-byte : goal.invariant-loop-byte
invariant-loop-byte l = digits_value l.first l.rest ≡ digits_value l.value (drop l.byte-index l.rest)
