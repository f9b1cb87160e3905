use Rattle.std.proofs.Common.{◌+◌, drop, is_some, vec_items, sym, ap, ◌∙◌}
use Rattle.settings.specs.Tables.{codes_after, codes_of}
use Rattle.settings.proofs.Bytes.{before, codes_add, comma_turn, digit_turn, codes_end}
use Rattle.settings.proofs.reading.owner_sets.Goals as goal
use Rattle.settings.proofs.reading.owner_sets.Goals.{then-byte-eq44+in-Some+in_ok-push, else-byte-eq44+in-Some-more_digits}

pub loop-byte-preserved : goal.loop-byte-preserved
loop-byte-preserved c =
    let s = c.args.text.now in
    let i = c.loop-byte.byte-index in
    let xs = codes_of (vec_items c.loop-byte.sets) in
    elim c.if-byte-eq44.branch [
      | then-byte-eq44+in-Some+in_ok-push w ↦
          comma_turn s i c.loop-byte.code w.in-Some.set xs (codes_of (vec_items c.if-byte-eq44.sets)) c.if-byte-eq44.code
          c.loop-byte-test.true w.if-byte-eq44.true w.in-Some.is
          (ap (λ v. codes_of (vec_items v)) w.sets-is ∙ codes_add _ _ _ w.in_ok-push.ensures.items) w.code-is
          c.loop-byte.invariant
      | else-byte-eq44+in-Some-more_digits w ↦
          digit_turn s i c.loop-byte.code xs c.if-byte-eq44.code c.loop-byte-test.true w.if-byte-eq44.false
          (w.code-is ∙ sym w.in-Some-more_digits.is ∙ w.more_digits.ensures) (ap is_some w.code-is) c.loop-byte.invariant
          ∙ ap (λ v. before (codes_of (vec_items v)) (codes_after c.if-byte-eq44.code (drop (i + 1) s))) (sym w.sets-is)
    ]

pub returns : goal.returns
returns c =
    codes_end c.args.text.now c.loop-byte.byte-index c.loop-byte.code c.in-Some-code.set (codes_of (vec_items c.loop-byte.sets)) _
    c.loop-byte-test.false c.in-Some-code.is (codes_add _ _ _ c.in_ok-push-2.ensures.items) c.loop-byte.invariant
