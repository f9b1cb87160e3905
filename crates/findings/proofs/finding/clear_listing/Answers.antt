use Rattle.std.proofs.Common.{ap, ◌∙◌, subst, inl, inr}
use Rattle.listing.specs.declared.routine.Routine.{Routine}
use Rattle.texts.specs.Refusals.{refusal_text}
use Rattle.settings.specs.declared.model.Layered.{Layered}
use Rattle.findings.specs.Findings.{Told}
use Rattle.findings.proofs.finding.clear_listing.Goals as goal

pub returns-in-Ok : goal.returns-in-Ok
returns-in-Ok g c =
    let x = c.examine-exam.result in
    let told = λ (m : Layered) (r : Routine). Told g.L.NamedLevel.named g.L.NamedLevel.told g.L.Level.order c.args.bytes.now m c.args.levels.now c.args.listener r.listing x.outcome c.finding_of.result in
    inl (
      c.in-Ok.routine.listing,
      x.outcome,
      c.in-Ok.ensures.is,
      record {
        wrong_length = λ n. (c.examine-exam.ensures.tells.wrong_length n).0;
        right = c.examine-exam.ensures.tells.right_outcome;
      },
      subst (λ (m : Layered). told m c.in-Ok.routine) c.examine-exam.ensures.keeps.1
          (subst (told x.model) c.examine-exam.ensures.keeps.0 c.finding_of.ensures),
    )

pub returns-in_ok-text-in-Err : goal.returns-in_ok-text-in-Err
returns-in_ok-text-in-Err g c =
    inr (
      c.in-Err.fault,
      c.in-Err.ensures.is,
      c.in_ok-text-in-Err.ensures ∙ ap (refusal_text c.args.bytes.now) c.into.ensures,
    )
