use Rattle.std.proofs.Common.{ℕ, List, ◌++◌, string_bytes, ap, ◌∙◌}
use Rattle.findings.specs.Findings.{cleared_text}
use Rattle.findings.proofs.Told.{both}
use Rattle.findings.proofs.finding.finding_of.Goals as goal

pub returns-in_ok-text-in-Err-TableLength : goal.returns-in_ok-text-in-Err-TableLength
returns-in_ok-text-in-Err-TableLength g c =
    rw (← c.in-Err-TableLength.ensures, c.in-Err-TableLength.field-0-is) (rw (c.counts_of.ensures.is, c.routine.ensures) at c.in_ok-text-in-Err-TableLength.ensures)

pub returns-in_ok-text-in-Ok : goal.returns-in_ok-text-in-Ok
returns-in_ok-text-in-Ok g c =
    let who = rw (c.routine.ensures, c.model.ensures) at c.in_ok-who-in-Ok.ensures in
    rw (← c.in-Ok.ensures) (c.in_ok-text-in-Ok.ensures.ok ∙ ap (λ (l : List ℕ). l ++ cleared_text) who)

pub returns-in_ok-text-in-Err-Leak : goal.returns-in_ok-text-in-Err-Leak
returns-in_ok-text-in-Err-Leak g c =
    let who = rw (c.routine.ensures, c.model.ensures) at c.in_ok-who-in-Err-Leak.ensures in
    let place = rw c.routine.ensures at c.in_ok-place-in-Err-Leak.ensures in
    let way = c.in_ok-way-in-Err-Leak.ensures in
    let leak = string_bytes c.in_ok-place-in-Err-Leak.place ++ string_bytes c.in_ok-way-in-Err-Leak.way in
    rw (← c.in-Err-Leak.ensures, c.in-Err-Leak.field-0-is) (
      leak,
      (way.0, way.1, both _ _ _ _ place way.2),
      c.in_ok-text-in-Err-Leak.ensures.ok ∙ ap (λ (l : List ℕ). l ++ leak) who,
    )
