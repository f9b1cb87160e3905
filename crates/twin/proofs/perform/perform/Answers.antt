use Rattle.std.proofs.Common.{◌≡◌, ◌+◌, ◌≤◌, length, sym, refl, ap, ◌∙◌, arith, rules}
use Rattle.run.specs.Runs.{terms_of}
use Rattle.twin.proofs.Along.{along_none, along_step, room_for, said_as, said_told, all_ended}
use Rattle.twin.proofs.Hearing.{rooms, all_logged}
use Rattle.twin.proofs.perform.perform.Goals as goal

pub loop-i-init : goal.loop-i-init
loop-i-init g c = (refl, along_none _ _ _ _ _ (rooms _ _ _ c.requires).1)

pub overflow_add-end : goal.overflow_add-end
overflow_add-end g c =
    let r = room_for _ _ _ _ _ _ _ _ _ _ c.loop-i.invariant.1 c.loop-i-test.true in
    let f : c.loop-i.used + c.places.result ≤ length c.loop-i.lines = omega (arith, c.places.ensures, r) in search rules

pub slice_bounds-make-end : goal.slice_bounds-make-end
slice_bounds-make-end g c =
    let r = room_for _ _ _ _ _ _ _ _ _ _ c.loop-i.invariant.1 c.loop-i-test.true in
    let f : c.loop-i.used + c.places.result ≤ length c.loop-i.lines = omega (arith, c.places.ensures, r) in search rules

pub loop-i-preserved : goal.loop-i-preserved
loop-i-preserved g c =
    let inv = c.loop-i.invariant in
    let made = c.make.ensures in
    let enough = rooms c.args.calls.now c.args.answers.now c.args.lines.now c.requires in (
      made.exam ∙ inv.0,
      along_step _ _ _ _ _ _ _ _ _ _ inv.1 c.loop-i-test.true _ _ _ _ _ (ap (terms_of g.M.LeakageModel.leakage) inv.0) c.places.ensures (omega (arith, inv.1.long, enough.0, c.loop-i-test.true))
          (sym (said_told c.make.result c.make.new.lines) ∙ ap said_as made.answer) made.state made.lines c.make.auto.lines,
    )

pub returns : goal.returns
returns g c =
    let inv = c.loop-i.invariant in
    let h : c.loop-i.i ≡ length c.args.calls.now = omega arith in
    record {
      logged = all_logged _ _ _ _ _ _ _ _ _ _ _ inv.1 h (rooms _ _ _ c.requires).1;
      state = all_ended _ _ _ _ _ _ _ _ _ _ inv.1 h;
      exam = inv.0;
    }
