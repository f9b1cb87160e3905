use Rattle.listing.specs.Forms.{routine_of}
use Rattle.reach.specs.Work.{Going, room}
use Rattle.reach.proofs.filling.reach.Given as goal

abbrev pub invariant-loop : goal.invariant-loop
invariant-loop l = Going (routine_of l.routine.listing) l.work

abbrev pub decreases-loop : goal.decreases-loop
decreases-loop l = room l.work.table
