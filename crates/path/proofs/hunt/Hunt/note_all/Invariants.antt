use Rattle.std.proofs.Common.{ℕ, ◌<◌}
use Rattle.listing.specs.Forms.{routine_of}
use Rattle.path.specs.Hunts.{Extends, MetAt, place_at}
use Rattle.path.proofs.hunt.Hunt.note_all.Given as goal

abbrev pub invariant-loop-point : goal.invariant-loop-point
invariant-loop-point l =
    Extends (routine_of l.routine.listing) l.initial.self l.self l.index
    × ((p k : ℕ)
    → p < l.point
    → k < l.routine.listing.counts.scalars
    → MetAt (routine_of l.routine.listing) l.self (place_at l.initial.self l.index) p k)
