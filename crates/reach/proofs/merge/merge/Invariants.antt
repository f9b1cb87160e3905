use Rattle.reach.proofs.Joining.{Joining}
use Rattle.reach.proofs.merge.merge.Given as goal

abbrev pub invariant-loop-k : goal.invariant-loop-k
invariant-loop-k l = Joining l.initial.into l.from l.into l.grew l.k
