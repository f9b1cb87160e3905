use Rattle.std.proofs.Common.{length, ap, ◌∙◌}
use Rattle.rules.specs.Run.{reply}
use Rattle.twin.specs.Logs.{lines_in, overwritten}
use Rattle.run.specs.Runs.{terms_in, state_of}
use Rattle.twin.proofs.Reading.{room_after, advance_is}
use Rattle.twin.proofs.perform.make.Goals as goal

pub returns-in-Advance-clause-lines : goal.returns-in-Advance-clause-lines
returns-in-Advance-clause-lines g c =
    let x = terms_in g.M.LeakageModel.leakage c.args.run.now in
    let s = state_of c.args.run.now in
    let held = c.args.lines.now in
    let done = c.advance.ensures in
    room_after x s (length held) _ _ held done.answer done.rest
    ∙ ap (λ d. overwritten (lines_in (reply x d s)) held) (advance_is c.args.call _ held c.in-Advance.is c.requires)
