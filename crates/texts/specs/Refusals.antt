-- What is printed of a refused listing.
use Rattle.std.specs.Prelude.{ℕ, ◌*◌, cond, List, [], ◌∷◌, ◌++◌, length, codes, decimal, ◌==◌, nat_lt}
use Rattle.lines.specs.Lines.{part}
use Rattle.listing.specs.declared.faults.Refusal.{Refusal}
use Rattle.listing.specs.Faults.{rule_number}
use Rattle.texts.specs.Escapes.{escaped_text}
use Rattle.texts.specs.Layouts.{times}
use Rattle.texts.specs.Reasons.{reason_of, reason_sentence}

-- how many columns stand before a field
abbrev pub field_start : ℕ → ℕ
field_start f =
    cond (f == 0) 0 (cond (f == 1) 4 (cond (f == 2) 6 (cond (f == 3) 17 (cond (f == 4) 28 (cond (f == 5) 39 50)))))

-- how many columns a field has
abbrev pub field_width : ℕ → ℕ
field_width f = cond (f == 0) 4 (cond (f == 1) 2 (cond (nat_lt f 6) 11 1))

-- blanks under what is shown before the field, and a caret under each character that is shown of it
abbrev pub marker : List ℕ → ℕ → List ℕ
marker s f =
    times (length (escaped_text (part 0 (field_start f) s))) (codes " ")
    ++ times (length (escaped_text (part (field_start f) (field_width f) s))) (codes "^")

-- a line and the mark below it; nothing where there is no line
abbrev pub line_shown : List ℕ → ℕ → List ℕ
line_shown [] f = []
line_shown (b ∷ bs) f = 10 ∷ (escaped_text (b ∷ bs) ++ (10 ∷ (marker (b ∷ bs) f ++ (10 ∷ []))))

abbrev pub refusal_text : List ℕ → Refusal → List ℕ
refusal_text s r =
    codes "refusal " ++ (decimal (rule_number r.rule) ++ (codes ", line " ++ (decimal r.line ++ (codes ", field " ++ (decimal r.field ++ (10 ∷ (reason_sentence (reason_of r) ++ (10 ∷ line_shown (part (51 * r.line) 51 s) r.field))))))))
