use Rattle.std.proofs.Common.{◌≡◌, true, length, ap, ◌∙◌, subst, rules}
use Rattle.clearance.specs.Outcomes.{is_granted}
use Rattle.run.specs.Runs.{terms_of, state_of}
use Rattle.twin.specs.Logs.{Journal, journal, start_of, stop_of, Logged}
use Rattle.twin.specs.Twins.{both_room}
use Rattle.twin.proofs.Looks.{looks}
use Rattle.twin.proofs.pair.both.Goals as goal

pub returns : goal.returns
returns g c =
    let e = c.args.exam.now in
    let w = g.M.LeakageModel.leakage in
    let m = c.args.memories in
    let j : Journal =
    journal m.first c.args.one.calls.now c.args.one.answers.now c.run_script.new.script.1.0 c.args.one.lines.now c.run_script.new.script.1.1.0 in
    let k : Journal =
    journal m.second c.args.two.calls.now c.args.two.answers.now c.run_script-2.new.script.1.0 c.args.two.lines.now c.run_script-2.new.script.1.1.0 in
    let room : both_room j k ≡ true = search rules in
    let cleared = c.in-Ok.ensures in
    let granted : is_granted e.outcome ≡ true = cleared.2 in
    let one : Logged (terms_of w e) (start_of j) j = subst (λ y. Logged (terms_of w y) (start_of j) j) cleared.0 c.run_script.ensures.logged in
    let two : Logged (terms_of w e) (start_of k) k = subst (λ y. Logged (terms_of w y) (start_of k) k) cleared.1 c.run_script-2.ensures.logged in
    let at : state_of c.run_script.result.run ≡ stop_of e.routine.listing j =
    c.run_script.ensures.state ∙ ap (λ y. stop_of y.routine.listing j) cleared.0 in
    let at' : state_of c.run_script-2.result.run ≡ stop_of e.routine.listing k =
    c.run_script-2.ensures.state ∙ ap (λ y. stop_of y.routine.listing k) cleared.1 in
    let s : length m.first.scalars ≡ 24 = search rules in
    let d : length m.first.cells ≡ 512 = search rules in
    let s' : length m.second.scalars ≡ 24 = search rules in
    let d' : length m.second.cells ≡ 512 = search rules in
    record {
      room = room;
      granted = granted;
      first_exam = c.run_script.ensures.exam ∙ cleared.0;
      second_exam = c.run_script-2.ensures.exam ∙ cleared.1;
      first_log = one;
      second_log = two;
      first_state = at;
      second_state = at';
      alike = λ E.
          looks g.L.Level.order w _ _ e granted E g.met.L.Level.lawful (g.met.M.LeakageModel.honest e.model) j k
          (record { of_scalars = s; of_cells = d }) (record { of_scalars = s'; of_cells = d' }) one two _ _ at at';
    }
