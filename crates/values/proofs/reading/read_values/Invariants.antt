use Rattle.std.proofs.Common.{◌≡◌, length, drop}
use Rattle.values.specs.Values.{values_from, values_of}
use Rattle.values.proofs.Lines.{pieces}
use Rattle.values.proofs.reading.read_values.Given as goal

abbrev pub invariant-loop-above : goal.invariant-loop-above
invariant-loop-above l =
    (goal.iterator-loop-above).can_next l.above-iterator
    × (goal.iterator-loop-above).is_finite l.above-iterator
    × (values_from l.routine.listing (length l.yielded) (drop (length l.yielded) (pieces l.text)) l.draft ≡ values_of l.routine.listing l.text)
