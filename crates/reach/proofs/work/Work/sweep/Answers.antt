use Rattle.std.proofs.Common.{◌+◌, ◌<◌, sym, subst₂, arith}
use Rattle.rules.specs.Routine.{end}
use Rattle.listing.specs.Forms.{routine_of}
use Rattle.reach.specs.Work.{Sweeping}
use Rattle.reach.proofs.Goings.{swept_past, swept_on}
use Rattle.reach.proofs.work.Work.sweep.Goals as goal
use Rattle.reach.proofs.work.Work.sweep.Goals.{then-self-point, else-self-point}

pub loop-point-preserved : goal.loop-point-preserved
loop-point-preserved c =
    let r = routine_of c.args.routine.now.listing in
    let old = c.args.self.now in
    let mid = c.loop-point.self in
    let i = c.loop-point.point in
    let within : i < end r = omega (arith, c.loop-point-test.true, c.counts_of-counts.ensures.ends) in
    elim c.if-self-point.branch [
      | then-self-point w ↦
          subst₂ (λ n a. Sweeping r old n (i + 1) a) (sym w.self-is) (sym w.again-is)
          (swept_on r old mid i c.loop-point.again c.loop-point.invariant w.pass_on-again.new.self w.pass_on-again.result within
          w.pass_on-again.ensures)
      | else-self-point w ↦
          subst₂ (λ n a. Sweeping r old n (i + 1) a) (sym w.self-is) (sym w.again-is)
          (swept_past r old mid i c.loop-point.again c.loop-point.invariant w.if-self-point.false)
    ]
