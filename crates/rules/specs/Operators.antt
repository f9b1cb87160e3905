-- The numbers of the operators.
use Rattle.std.specs.Prelude.{◌≡◌, ℕ, cond, Some, None, Option, ◌==◌}
use Rattle.rules.specs.declared.Operator.{Operator}
use Rattle.rules.specs.declared.Operator.TheVariants.{Sum, Difference, Product, And, Or, ExclusiveOr, LeftShift, RightShift, Quotient, Remainder, Less, Equal}

-- The number by which a listing names an operator.
abbrev pub operator_number : Operator → ℕ
operator_number Sum = 0
operator_number Difference = 1
operator_number Product = 2
operator_number And = 3
operator_number Or = 4
operator_number ExclusiveOr = 5
operator_number LeftShift = 6
operator_number RightShift = 7
operator_number Quotient = 8
operator_number Remainder = 9
operator_number Less = 10
operator_number Equal = 11

-- The operator that has a number, if one has.
abbrev pub operator_of : ℕ → Option Operator
operator_of n =
    cond (n == 0) (Some Sum)
    (cond (n == 1) (Some Difference)
    (cond (n == 2) (Some Product)
    (cond (n == 3) (Some And)
    (cond (n == 4) (Some Or)
    (cond (n == 5) (Some ExclusiveOr)
    (cond (n == 6) (Some LeftShift)
    (cond (n == 7) (Some RightShift)
    (cond (n == 8) (Some Quotient)
    (cond (n == 9) (Some Remainder)
    (cond (n == 10) (Some Less)
    (cond (n == 11) (Some Equal) None)))))))))))

-- Number and operator are each other's inverse.
pub record Numbered : Type 0 where
  pub operator_back : (op : Operator) → operator_of (operator_number op) ≡ Some op
  pub number_back : (n : ℕ) (op : Operator) → operator_of n ≡ Some op → n ≡ operator_number op
