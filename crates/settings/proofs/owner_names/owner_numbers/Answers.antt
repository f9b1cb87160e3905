use Rattle.std.proofs.Common.{◌≡◌, ℕ, ◌+◌, ◌-◌, ◌/◌, Bool, true, false, List, ◌++◌, string_bytes, decimal, sym, ap, ◌∙◌}
use Rattle.texts.proofs.Adding.{onto_is, turned}
use Rattle.settings.specs.Names.{owner_numbers}
use Rattle.settings.proofs.Numbering.{number_step, number_pass, all_is}
use Rattle.settings.proofs.owner_names.owner_numbers.Goals as goal
use Rattle.settings.proofs.owner_names.owner_numbers.Goals.{then-left-eq1+in_ok-number+in_ok-push_str, else-left-eq1}

pub loop-owner-init : goal.loop-owner-init
loop-owner-init c =
    ap (λ (l : List ℕ). l ++ owner_numbers true c.args.set 0 16) c.new-out.ensures.bytes ∙ sym (all_is c.args.set)

-- with the flag by another name
flagged : (now : List ℕ) (f g : Bool) (s k : ℕ) (whole : List ℕ) → f ≡ g → now ++ owner_numbers g s k (16 - k) ≡ whole → now ++ owner_numbers f s k (16 - k) ≡ whole
flagged now f g s k whole e h = rw e h

pub loop-owner-preserved : goal.loop-owner-preserved
loop-owner-preserved c =
    let f = c.loop-owner.first in
    let s = c.loop-owner.left in
    let k = c.loop-owner.owner-counter in
    let out = string_bytes c.if-left-eq1.out in
    elim c.if-left-eq1.branch [
      | then-left-eq1+in_ok-number+in_ok-push_str w ↦
          flagged out _ false (s / 2) (k + 1) _ w.first-is
          (turned (string_bytes c.loop-owner.out) _ _ _ out _
          (ap string_bytes w.out-is ∙ onto_is _ _ _ _
          (w.as_str.ensures.value ∙ w.in_ok-number.ensures.ok ∙ ap (λ (l : List ℕ). l ++ decimal k) w.separator-before.ensures)
          w.in_ok-push_str.ensures.bytes)
          (number_step f s k c.loop-owner-test.true w.if-left-eq1.true)
          c.loop-owner.invariant)
      | else-left-eq1 w ↦
          flagged out _ f (s / 2) (k + 1) _ w.first-is
          (ap (λ (l : List ℕ). l ++ owner_numbers f (s / 2) (k + 1) (16 - (k + 1))) (ap string_bytes w.out-is)
          ∙ ap (λ (l : List ℕ). string_bytes c.loop-owner.out ++ l) (sym (number_pass f s k c.loop-owner-test.true w.if-left-eq1.false))
          ∙ c.loop-owner.invariant)
    ]
