use Rattle.path.proofs.Following.{Following}
use Rattle.path.proofs.tracing.follow.Given as goal

abbrev pub invariant-loop-at : goal.invariant-loop-at
invariant-loop-at l = Following l.hunt l.index l.places l.count l.at

abbrev pub decreases-loop-at : goal.decreases-loop-at
decreases-loop-at l = l.at
