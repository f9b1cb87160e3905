-- The verdict slip: a word in 8 columns, four numbers of 11 columns each, and a newline.
use Rattle.std.specs.Prelude.{ℕ, List, [], ◌∷◌, ◌++◌, codes, slice_index}
use Rattle.listing.specs.Faults.{rule_number}
use Rattle.clearance.specs.Bounds.{bound_number}
use Rattle.columns.specs.Numbers.{number_column}
use Rattle.verdict.specs.declared.slip.Slip.{Slip}
use Rattle.verdict.specs.declared.slip.Slip.TheVariants.{Clear, Leak, Refused}

abbrev pub slip_word : Slip → List ℕ
slip_word Clear = codes "CLEAR   "
slip_word (Leak s) = codes "LEAK    "
slip_word (Refused r) = codes "REFUSED "

-- A leak has node, operand, bound and start name; a refusal has number, line and field.
abbrev pub slip_numbers : Slip → List ℕ
slip_numbers Clear = 0 ∷ 0 ∷ 0 ∷ 0 ∷ []
slip_numbers (Leak s) = s.node ∷ s.operand ∷ bound_number s.bound ∷ s.name ∷ []
slip_numbers (Refused r) = rule_number r.rule ∷ r.line ∷ r.field ∷ 0 ∷ []

-- Number i of a slip, from 0, in its column.
abbrev pub slip_column : Slip → ℕ → List ℕ
slip_column x i = number_column 11 (slice_index (slip_numbers x) i)

-- The 53 bytes of a slip.
abbrev pub slip_text : Slip → List ℕ
slip_text x =
    slip_word x ++ slip_column x 0 ++ slip_column x 1 ++ slip_column x 2 ++ slip_column x 3 ++ (10 ∷ [])
