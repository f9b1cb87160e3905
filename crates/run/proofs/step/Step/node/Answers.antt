use Rattle.std.proofs.Common.{sym, subst}
use Rattle.rules.specs.Routine.{Next, OperandsExist}
use Rattle.reach.proofs.Loaded.{operands_of, next_of}
use Rattle.run.proofs.Points.{among}
use Rattle.run.proofs.step.Step.node.Goals as goal

pub returns-clause-operands : goal.returns-clause-operands
returns-clause-operands c =
    let s = c.args.self.now in
    let x = s.routine.now in
    subst (OperandsExist 24 x.listing.counts.arrays) (sym s.found) (among x _ (operands_of x s.point s.before))

pub returns-clause-next : goal.returns-clause-next
returns-clause-next c q leads =
    let s = c.args.self.now in
    next_of s.routine.now s.point s.before q (subst (λ n. Next n s.point q) s.found leads)
