use Rattle.listing.specs.Forms.{routine_of}
use Rattle.reach.specs.Work.{Sweeping}
use Rattle.reach.proofs.work.Work.sweep.Given as goal

abbrev pub invariant-loop-point : goal.invariant-loop-point
invariant-loop-point l = Sweeping (routine_of l.routine.listing) l.initial.self l.self l.point l.again
