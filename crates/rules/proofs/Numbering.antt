-- The numbers of the operators, there and back.
use Rattle.std.proofs.Common.{◌≡◌, ℕ, false, cond, eqb, is_some, Some, Option, sym, refl, ap, ◌∙◌, inl, inr}
use Rattle.std.proofs.lemmas.Bool.{cases_Bool, cond-true, cond-false, eqb-true, both_ways}
use Rattle.rules.specs.declared.Operator.{Operator}
use Rattle.rules.specs.declared.Operator.TheVariants.{Sum, Difference, Product, And, Or, ExclusiveOr, LeftShift, RightShift, Quotient, Remainder, Less, Equal}
use Rattle.rules.specs.Operators.{operator_number, operator_of, Numbered}

operator_back : (op : Operator) → operator_of (operator_number op) ≡ Some op
operator_back Sum = refl
operator_back Difference = refl
operator_back Product = refl
operator_back And = refl
operator_back Or = refl
operator_back ExclusiveOr = refl
operator_back LeftShift = refl
operator_back RightShift = refl
operator_back Quotient = refl
operator_back Remainder = refl
operator_back Less = refl
operator_back Equal = refl

-- One number tried, and the others left to the rest.
tried :
    (n : ℕ) (this op : Operator) (rest : Option Operator)
    → (rest ≡ Some op → n ≡ operator_number op)
    → cond (eqb n (operator_number this)) (Some this) rest ≡ Some op
    → n ≡ operator_number op
tried n this op rest others e =
    elim (cases_Bool (eqb n (operator_number this))) [
      | inl q ↦ let z : Some this ≡ Some op = sym (cond-true _ _ _ q) ∙ e in let w : this ≡ op = cc in eqb-true n (operator_number this) q ∙ ap operator_number w
      | inr q ↦ others (sym (cond-false _ _ _ q) ∙ e)
    ]

number_back : (n : ℕ) (op : Operator) → operator_of n ≡ Some op → n ≡ operator_number op
number_back n op =
    tried n Sum op _
    (tried n Difference op _
    (tried n Product op _
    (tried n And op _
    (tried n Or op _
    (tried n ExclusiveOr op _
    (tried n LeftShift op _
    (tried n RightShift op _
    (tried n Quotient op _
    (tried n Remainder op _
    (tried n Less op _
    (tried n Equal op _
    (λ e. absurd (both_ways false refl (ap is_some e))))))))))))))

pub numbered : Numbered
numbered = record { operator_back = operator_back; number_back = number_back }
