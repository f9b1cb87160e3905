use Rattle.std.proofs.Common.{◌≤◌, subst}
use Rattle.rules.specs.Routine.{end}
use Rattle.listing.specs.Forms.{routine_of}
use Rattle.listing.specs.declared.parts.Counts.{Counts}
use Rattle.reach.specs.Work.{Started, Swept}
use Rattle.reach.proofs.Loaded.{limits_of, end_of}
use Rattle.reach.proofs.Goings.{going_first, exact}
use Rattle.reach.proofs.filling.reach.Goals as goal

pub loop-init : goal.loop-init
loop-init c =
    let x = c.args.routine.now in
    let few : end (routine_of x.listing) ≤ 128 = rw (end_of x) (limits_of x).nodes in
    going_first (routine_of x.listing) c.started-work.result few
    (subst (λ (k : Counts). Started k.scalars c.started-work.result) c.counts_of-counts.ensures.is c.started-work.ensures)

pub returns : goal.returns
returns c =
    let r = routine_of c.args.routine.now.listing in
    exact r c.loop.work c.sweep.new.self (subst (Swept r c.loop.work c.sweep.new.self) c.loop-test.false c.sweep.ensures)
