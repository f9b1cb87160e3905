use Rattle.std.proofs.Common.{◌-◌}
use Rattle.listing.specs.Forms.{routine_of}
use Rattle.path.specs.Ways.{at_place}
use Rattle.path.specs.Hunts.{Hunting}
use Rattle.path.proofs.tracing.path_to.Given as goal

abbrev pub invariant-loop-index : goal.invariant-loop-index
invariant-loop-index l = Hunting (routine_of l.routine.listing) l.name (at_place l.point l.scalar) l.hunt l.index

abbrev pub decreases-loop-index : goal.decreases-loop-index
decreases-loop-index l = 3096 - l.index
