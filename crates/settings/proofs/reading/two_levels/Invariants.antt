use Rattle.std.proofs.Common.{◌≡◌, drop, vec_items}
use Rattle.settings.specs.Tables.{two_levels_of}
use Rattle.settings.proofs.Bytes.{before}
use Rattle.settings.proofs.reading.two_levels.Given as goal

-- the levels so far, with those to come, are all
abbrev pub invariant-loop-byte : goal.invariant-loop-byte
invariant-loop-byte l = two_levels_of l.text ≡ before (vec_items l.levels) (two_levels_of (drop l.byte-index l.text))
