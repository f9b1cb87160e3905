use Rattle.std.proofs.Common.{◌≡◌, ◌≤◌, ◌⊎◌, length, set, sym, refl, ap, ◌∙◌, subst, inl, arith}
use Rattle.std.proofs.lemmas.List.{set-get_or}
use Rattle.rules.specs.Routine.{end}
use Rattle.rules.proofs.Loops.{Written}
use Rattle.run.specs.Views.{of_line}
use Rattle.run.specs.Runs.{terms_of, terms_in, state_of}
use Rattle.run.proofs.Turns.{turn, halts, all_stands, all_answered, all_rest}
use Rattle.run.proofs.run.Run.fill.Goals as goal

pub loop-count-preserved : goal.loop-count-preserved
loop-count-preserved g c =
    let inv = c.loop-count.invariant in
    let x = terms_in g.M.LeakageModel.leakage c.args.self.now in
    let y = terms_in g.M.LeakageModel.leakage c.loop-count.self in
    let same = ap (terms_of g.M.LeakageModel.leakage) inv.0 in (
      c.step.ensures.exam ∙ inv.0,
      turn x _ _ _ _ _ inv.1 y _ _ _ same (ap (set c.loop-count.lines c.loop-count.count) c.step.ensures.line) c.step.ensures.state (omega arith) c.at_end.ensures.going c.if-at_end.false,
    )

pub returns-then-at_end : goal.returns-then-at_end
returns-then-at_end g c =
    let inv = c.loop-count.invariant in
    let x = terms_in g.M.LeakageModel.leakage c.args.self.now in
    let y = terms_in g.M.LeakageModel.leakage c.loop-count.self in
    let same = ap (terms_of g.M.LeakageModel.leakage) inv.0 in
    let s₀ = state_of c.args.self.now in
    let s = state_of c.loop-count.self in
    let i = c.loop-count.count in
    -- the line of the turn that was not made is as it was
    let w = subst (λ zs. Written of_line x.model x.routine s₀ c.args.lines.now s zs i) (sym (set-get_or c.loop-count.lines i (record { node = 0; mark = 0 }))) inv.1 in
    let over = halts x _ _ _ _ _ inv.1 y _ same c.at_end.ensures.going c.if-at_end.true in
    record {
      answer = all_answered x _ _ _ _ _ w over y _ same refl refl;
      rest = all_rest x _ _ _ _ _ w over _ refl;
      state = all_stands x _ _ _ _ _ w over;
      exam = inv.0;
    }

pub returns : goal.returns
returns g c =
    let inv = c.loop-count.invariant in
    let x = terms_in g.M.LeakageModel.leakage c.args.self.now in
    let y = terms_in g.M.LeakageModel.leakage c.loop-count.self in
    let same = ap (terms_of g.M.LeakageModel.leakage) inv.0 in
    let over : (length c.args.lines.now ≤ c.loop-count.count) ⊎ (end x.routine ≤ c.loop-count.self.point) = inl (omega arith) in
    let all : length c.loop-count.lines ≡ c.loop-count.count = omega arith in
    record {
      answer = all_answered x _ _ _ _ _ inv.1 over y _ same all refl;
      rest = all_rest x _ _ _ _ _ inv.1 over _ all;
      state = all_stands x _ _ _ _ _ inv.1 over;
      exam = inv.0;
    }
