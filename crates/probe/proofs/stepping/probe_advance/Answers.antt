use Rattle.std.proofs.Common.{◌≡◌, ℕ, length, Ok, Result, sym, ap, ◌∙◌, subst}
use Rattle.listing.specs.declared.faults.RoutineFault.{RoutineFault}
use Rattle.listing.specs.declared.parts.Listing.{Listing}
use Rattle.listing.specs.declared.routine.Routine.{Routine}
use Rattle.probe.specs.Probes.{made_steps, Probed}
use Rattle.probe.proofs.stepping.probe_advance.Goals as goal

read : (x : Result Listing RoutineFault) (t : Listing) (n r : ℕ) → x ≡ Ok t → Probed (Ok t) n r → Probed x n r
read x t n r e h = subst (λ y. Probed y n r) (sym e) h

pub returns-in-Ok : goal.returns-in-Ok
returns-in-Ok c =
    let x = c.public_exam.ensures in
    let o = c.public_exam.result.outcome in
    let n = length c.args.lines.now in
    read _ c.in-Ok.routine.listing n _ c.in-Ok.ensures.is
    (o, x.right, c.steps_made.ensures ∙ ap (λ (u : Routine). made_steps o u.listing n) x.keeps)
