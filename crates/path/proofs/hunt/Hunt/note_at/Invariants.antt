use Rattle.std.proofs.Common.{ℕ, ◌<◌}
use Rattle.listing.specs.Forms.{routine_of}
use Rattle.path.specs.Hunts.{Extends, MetAt, place_at}
use Rattle.path.proofs.hunt.Hunt.note_at.Given as goal

abbrev pub invariant-loop-scalar : goal.invariant-loop-scalar
invariant-loop-scalar l =
    Extends (routine_of l.routine.listing) l.initial.self l.self l.index
    × ((k : ℕ) → k < l.scalar → MetAt (routine_of l.routine.listing) l.self (place_at l.initial.self l.index) l.point k)
