use Rattle.std.proofs.Common.{◌≡◌, drop, vec_items}
use Rattle.settings.specs.Tables.{owner_codes_of, codes_after, codes_of}
use Rattle.settings.proofs.Bytes.{before}
use Rattle.settings.proofs.reading.owner_sets.Given as goal

-- the codes so far, with those to come, are all
abbrev pub invariant-loop-byte : goal.invariant-loop-byte
invariant-loop-byte l =
    owner_codes_of l.text ≡ before (codes_of (vec_items l.sets)) (codes_after l.code (drop l.byte-index l.text))
