-- The fault of a line is that of its leftmost field that breaks its rule.
use Rattle.std.proofs.Common.{◌≡◌, ℕ, ◌+◌, ◌*◌, ◌<◌, ◌≤◌, true, false, eqb, ltb, List, [], ◌∷◌, length, get_or, Some, None, Ok, Err, Option, Result, sym, refl, ap, ◌∙◌, subst, inl, inr, arith, below_none, below_more}
use Rattle.std.proofs.lemmas.Bool.{cond-true, cond-false, eqb-false, cases_Bool, ltb-true, ltb-false}
use Rattle.columns.specs.Numbers.{column_value, Holds, NumberAnswer}
use Rattle.columns.specs.Blanks.{all_blank, blanks}
use Rattle.columns.proofs.Blanks.{blank_ok, blank_back}
use Rattle.columns.proofs.RoundTrip.{answer}
use Rattle.lines.specs.declared.faults.ColumnFault.{ColumnFault}
use Rattle.lines.specs.declared.kind.Kind.{Kind}
use Rattle.lines.specs.declared.line.Line.{Line}
use Rattle.lines.specs.Kinds.{kind_of, operand_count, letter_of}
use Rattle.lines.specs.Lines.{bind, or_fault, part, fault_at, column_read, letter_read, operand_read, line_read, from_letter, from_first, from_second, from_third, from_fourth, line_end}
use Rattle.lines.specs.Laws.{Tells, OperandKeeps, Keeps, Leftmost, LineAnswer}
use Rattle.lines.proofs.Lines.{err_is_err, column_ok, letter_ok, two_places, length_part, line_ok}
use Rattle.lines.proofs.Back.{kind_back, line_back}

err_same : {A : Type 0} {f g : ColumnFault} → ◌≡◌ {A = Result A ColumnFault} (Err f) (Err g) → f ≡ g
err_same {A} {f} {g} e = cc

-- a column that is read and one that is refused
column_err : (s : List ℕ) (l f : ℕ) (g : ColumnFault) → column_read s l f ≡ Err g → (fault_at l f ≡ g) × ((n : ℕ) → Holds s n → ⊥)
column_err s l f g e = go (column_value s) refl e where
  go : (o : Option ℕ) → column_value s ≡ o → or_fault (fault_at l f) o ≡ Err g → (fault_at l f ≡ g) × ((n : ℕ) → Holds s n → ⊥)
  go (Some m) q r = absurd (err_is_err (sym r))
  go None q r = (err_same r, subst (NumberAnswer s) q (answer s))

letter_back : (s : List ℕ) (l : ℕ) (k : Kind) → s ≡ 32 ∷ letter_of k ∷ [] → letter_read s l ≡ Ok k
letter_back s l k e = ap (λ t. letter_read t l) e ∙ ap (or_fault (fault_at l 1)) (kind_back k)

letter_err : (s : List ℕ) (l : ℕ) (g : ColumnFault) → letter_read s l ≡ Err g → (fault_at l 1 ≡ g) × ((k : Kind) → s ≡ 32 ∷ letter_of k ∷ [] → ⊥)
letter_err s l g e = (
  elim (cases_Bool (eqb (get_or s 0 0) 32)) [
    | inl t ↦ go (kind_of (get_or s 1 0)) (sym (cond-true _ _ _ t) ∙ e)
    | inr f ↦ err_same (sym (cond-false _ _ _ f) ∙ e)
  ],
  λ k q. err_is_err (sym e ∙ letter_back s l k q),
) where
  go : (o : Option Kind) → or_fault (fault_at l 1) o ≡ Err g → fault_at l 1 ≡ g
  go (Some k) r = absurd (err_is_err (sym r))
  go None r = err_same r

tells_same : (s : List ℕ) (k m : Kind) → Tells s k → Tells s m → m ≡ k
tells_same s k m h g =
    let e : letter_of m ≡ letter_of k = ap (λ t. get_or t 1 0) (sym g ∙ h) in
    some_same (sym (kind_back m) ∙ ap kind_of e ∙ kind_back k)
  where
    some_same : {a b : Kind} → Some a ≡ Some b → a ≡ b
    some_same {a} {b} e = cc

operand_kept : (k : Kind) (j : ℕ) (s : List ℕ) (l v : ℕ) → length s ≡ 11 → operand_read k j s l ≡ Ok v → OperandKeeps k j s
operand_kept k j s l v h e =
    elim (cases_Bool (ltb j (operand_count k))) [
      | inl t ↦ inl (ltb-true j (operand_count k) t, (v, column_ok s l (j + 2) v (sym (cond-true _ _ _ t) ∙ e)))
      | inr f ↦ elim (cases_Bool (all_blank s)) [
        | inl t ↦ inr (ltb-false j (operand_count k) f, blank_ok s t ∙ ap blanks h)
        | inr g ↦ absurd (err_is_err (sym (cond-false _ _ _ f ∙ cond-false _ _ _ g) ∙ e))
      ]
    ]

operand_err : (k : Kind) (j : ℕ) (s : List ℕ) (l : ℕ) (g : ColumnFault) → operand_read k j s l ≡ Err g → (fault_at l (j + 2) ≡ g) × (OperandKeeps k j s → ⊥)
operand_err k j s l g e =
    elim (cases_Bool (ltb j (operand_count k))) [
      | inl t ↦ used (ltb-true j (operand_count k) t) (column_err s l (j + 2) g (sym (cond-true _ _ _ t) ∙ e))
      | inr f ↦ elim (cases_Bool (all_blank s)) [
        | inl t ↦ absurd (err_is_err (sym (sym (cond-false _ _ _ f ∙ cond-true _ _ _ t) ∙ e)))
        | inr b ↦ (err_same (sym (cond-false _ _ _ f ∙ cond-false _ _ _ b) ∙ e), unused (ltb-false j (operand_count k) f) b)
      ]
    ] where
      used : j < operand_count k → (fault_at l (j + 2) ≡ g) × ((n : ℕ) → Holds s n → ⊥) → (fault_at l (j + 2) ≡ g) × (OperandKeeps k j s → ⊥)
      used h p = (p.0, none) where
        none : OperandKeeps k j s → ⊥
        none (inl o) = p.1 o.1.0 o.1.1
        none (inr o) = let z = o.0 in omega arith

      unused : operand_count k ≤ j → all_blank s ≡ false → OperandKeeps k j s → ⊥
      unused h b (inl o) = let z = o.0 in omega arith
      unused h b (inr o) = let q : true ≡ false = sym (blank_back 11) ∙ sym (ap all_blank o.1) ∙ b in let z : ◌≡◌ {A = ℕ} 0 1 = cc in omega arith

module _ (s : List ℕ) (l : ℕ) (h : length s ≡ 51) (f : ColumnFault) where
  keeps_number : (n : ℕ) → Holds (part 0 4 s) n → Keeps s 0
  keeps_number n o = record { number = λ _. (n, o); letter = λ e. absurd (omega arith); operand = λ j _ e. absurd (omega arith); newline = λ e. absurd (omega arith) }

  keeps_letter : (k : Kind) → Tells s k → Keeps s 1
  keeps_letter k o = record { number = λ e. absurd (omega arith); letter = λ _. (k, o); operand = λ j _ e. absurd (omega arith); newline = λ e. absurd (omega arith) }

  keeps_operand : (k : Kind) (j : ℕ) → j < 4 → Tells s k → OperandKeeps k j (part (6 + 11 * j) 11 s) → Keeps s (j + 2)
  keeps_operand k j b o p =
      record {
        number = λ e. absurd (omega arith);
        letter = λ e. absurd (omega arith);
        operand = λ i _ e. let q : j ≡ i = omega arith in subst (λ i. (k : Kind) × Tells s k × OperandKeeps k i (part (6 + 11 * i) 11 s)) q (k, o, p);
        newline = λ e. absurd (omega arith);
      }

  -- all left of field m keep their rule, and m breaks it
  first : (m : ℕ) → fault_at l m ≡ f → ((g : ℕ) → g < m → Keeps s g) → (Keeps s m → ⊥) → Leftmost s l f
  first m e left breaks =
      subst (Leftmost s l) e (record { line = refl; left = left; breaks = breaks })

  abbrev Left : ℕ → Type 0
  Left m = (g : ℕ) → g < m → Keeps s g

  at_end : (n : ℕ) (k : Kind) (a b c d : ℕ) → Left 6 → line_end s l n k a b c d ≡ Err f → Leftmost s l f
  at_end n k a b c d left e =
      elim (cases_Bool (eqb (get_or s 50 0) 10)) [
        | inl t ↦ absurd (err_is_err (sym (sym (cond-true _ _ _ t) ∙ e)))
        | inr t ↦ first 6 (err_same (sym (cond-false _ _ _ t) ∙ e)) left (λ o. eqb-false (get_or s 50 0) 10 t (o.newline refl))
      ]

  operand_breaks : (k : Kind) (j : ℕ) → j < 4 → Tells s k → (OperandKeeps k j (part (6 + 11 * j) 11 s) → ⊥) → Keeps s (j + 2) → ⊥
  operand_breaks k j b t fails o =
      let p = o.operand j b refl in
      fails (subst (λ m. OperandKeeps m j (part (6 + 11 * j) 11 s)) (tells_same s k p.0 t p.1) p.2)

  at_operand : (k : Kind) (j : ℕ) → j < 4 → 6 + 11 * j + 11 ≤ 51 → Tells s k → Left (j + 2) → (next : ℕ → Result Line ColumnFault)
      → ((v : ℕ) → Left (j + 3) → next v ≡ Err f → Leftmost s l f) → bind (operand_read k j (part (6 + 11 * j) 11 s) l) next ≡ Err f → Leftmost s l f
  at_operand k j b w t left next on e = go (operand_read k j (part (6 + 11 * j) 11 s) l) refl e where
    go : (r : Result ℕ ColumnFault) → operand_read k j (part (6 + 11 * j) 11 s) l ≡ r → bind r next ≡ Err f → Leftmost s l f
    go (Ok v) q r =
        let z : j + 2 + 1 ≡ j + 3 = omega arith in
        on v (subst Left z (below_more (Keeps s) (j + 2) left (keeps_operand k j b t (operand_kept k j (part (6 + 11 * j) 11 s) l v (length_part (6 + 11 * j) 11 s (omega arith)) q)))) r
    go (Err g) q r =
        let p = operand_err k j (part (6 + 11 * j) 11 s) l g q in
        first (j + 2) (p.0 ∙ err_same r) left (operand_breaks k j b t p.1)

  at_letter : (n : ℕ) → Left 1 → bind (letter_read (part 4 2 s) l) (from_first s l n) ≡ Err f → Leftmost s l f
  at_letter n left e = go (letter_read (part 4 2 s) l) refl e where
    go : (r : Result Kind ColumnFault) → letter_read (part 4 2 s) l ≡ r → bind r (from_first s l n) ≡ Err f → Leftmost s l f
    go (Ok k) q r =
        let u = letter_ok (part 4 2 s) l k q in
        let t : Tells s k = two_places (part 4 2 s) (length_part 4 2 s (omega arith)) ∙ ap (λ x. x ∷ get_or (part 4 2 s) 1 0 ∷ []) u.0 ∙ ap (λ y. 32 ∷ y ∷ []) u.1 in
        at_operand k 0 (omega arith) (omega arith) t (below_more (Keeps s) 1 left (keeps_letter k t)) (from_second s l n k) (λ a left₁ r₁.
        at_operand k 1 (omega arith) (omega arith) t left₁ (from_third s l n k a) (λ b left₂ r₂.
        at_operand k 2 (omega arith) (omega arith) t left₂ (from_fourth s l n k a b) (λ c left₃ r₃.
        at_operand k 3 (omega arith) (omega arith) t left₃ (line_end s l n k a b c) (λ d left₄ r₄. at_end n k a b c d left₄ r₄) r₃) r₂) r₁) r
    go (Err g) q r =
        let p = letter_err (part 4 2 s) l g q in
        first 1 (p.0 ∙ err_same r) left (λ o. let k = o.letter refl in p.1 k.0 k.1)

  pub leftmost : line_read s l ≡ Err f → Leftmost s l f
  leftmost e = go (column_read (part 0 4 s) l 0) refl e where
    go : (r : Result ℕ ColumnFault) → column_read (part 0 4 s) l 0 ≡ r → bind r (from_letter s l) ≡ Err f → Leftmost s l f
    go (Ok n) q r = at_letter n (below_more (Keeps s) 0 (below_none (Keeps s)) (keeps_number n (column_ok (part 0 4 s) l 0 n q))) r
    go (Err g) q r =
        let p = column_err (part 0 4 s) l 0 g q in
        first 0 (p.0 ∙ err_same r) (below_none (Keeps s)) (λ o. let n = o.number refl in p.1 n.0 n.1)

-- the answer that the rules give, in the subject's words
pub line_answer : (s : List ℕ) (l : ℕ) → length s ≡ 51 → LineAnswer s l (line_read s l)
line_answer s l h = go (line_read s l) refl where
  go : (r : Result Line ColumnFault) → line_read s l ≡ r → LineAnswer s l r
  go (Ok x) e = line_ok s l x h e
  go (Err f) e = (leftmost s l h f e, λ x o. err_is_err (sym e ∙ ap (λ t. line_read t l) o.text ∙ line_back x l o.trim o.fits))
