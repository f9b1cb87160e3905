-- A slip, piece by piece.
use Rattle.std.proofs.Common.{◌≡◌, ℕ, ◌+◌, ◌*◌, ◌<◌, ◌≤◌, List, [], ◌∷◌, ◌++◌, length, get_or, take, drop, sym, refl, ap, ◌∙◌, arith, length-drop}
use Rattle.std.proofs.lemmas.List.{append_assoc, length-append, drop_all, take_all, take_more, append-nil, length-take-le}
use Rattle.listing.specs.Faults.{rule_number}
use Rattle.clearance.specs.Bounds.{bound_number}
use Rattle.columns.specs.Numbers.{number_column}
use Rattle.lines.specs.Text.{over}
use Rattle.lines.proofs.Over.{over_next, length_number}
use Rattle.verdict.specs.declared.slip.Slip.{Slip}
use Rattle.verdict.specs.declared.slip.Slip.TheVariants.{Clear, Leak, Refused}
use Rattle.verdict.specs.Slips.{slip_word, slip_numbers, slip_text}

pub length_word : (x : Slip) → length (slip_word x) ≡ 8
length_word Clear = refl
length_word (Leak s) = refl
length_word (Refused r) = refl

-- The columns of numbers, one after the other.
abbrev pub columns : List ℕ → List ℕ
columns [] = []
columns (n ∷ ns) = number_column 11 n ++ columns ns

length_columns : (ns : List ℕ) → length (columns ns) ≡ 11 * length ns
length_columns [] = refl
length_columns (n ∷ ns) =
    length-append (number_column 11 n) (columns ns) ∙ omega (arith, length_number 11 n, length_columns ns)

columns_append : (ns ms : List ℕ) → columns (ns ++ ms) ≡ columns ns ++ columns ms
columns_append [] ms = refl
columns_append (n ∷ ns) ms =
    ap (λ t. number_column 11 n ++ t) (columns_append ns ms) ∙ sym (append_assoc (number_column 11 n) (columns ns) (columns ms))

columns_more : (ns : List ℕ) (i : ℕ) → i < length ns → columns (take (i + 1) ns) ≡ columns (take i ns) ++ number_column 11 (get_or ns i 0)
columns_more ns i h =
    ap columns (take_more ns i 0 h)
    ∙ columns_append (take i ns) (get_or ns i 0 ∷ [])
    ∙ ap (λ t. columns (take i ns) ++ t) (append-nil (number_column 11 (get_or ns i 0)))

-- A word of 8 bytes and the first i of four numbers are written over 53 bytes.
module _ (s s₁ w ns : List ℕ) (i : ℕ) (lw : length w ≡ 8) (four : length ns ≡ 4) (l : length s ≡ 53) (e₁ : s₁ ≡ over 0 (w ++ columns (take i ns)) s) where
  wide : i ≤ 4 → length (w ++ columns (take i ns)) ≡ 8 + 11 * i
  wide h = length-append w (columns (take i ns)) ∙ omega (arith, lw, length_columns (take i ns), length-take-le i ns (omega (arith, four)))

  pub as_long : i ≤ 4 → length s₁ ≡ 53
  as_long h =
      let t = w ++ columns (take i ns) in
      ap length e₁ ∙ length-append t (drop (0 + length t) s) ∙ omega (arith, length-drop (0 + length t) s, wide h)

  -- one number more
  pub column_more :
      (s₂ : List ℕ) (at : ℕ)
      → i < 4
      → at ≡ 8 + 11 * i
      → s₂ ≡ over at (number_column 11 (get_or ns i 0)) s₁
      → s₂ ≡ over 0 (w ++ columns (take (i + 1) ns)) s
  column_more s₂ at h a e₂ =
      let u = number_column 11 (get_or ns i 0) in
      let t = columns (take i ns) in
      over_next s s₁ s₂ (w ++ t) u 0 (8 + 11 * i) (wide (omega arith)) (omega arith) e₁ (e₂ ∙ ap (λ k. over k u s₁) (omega arith))
      ∙ ap (λ v. over 0 v s) (append_assoc w t u ∙ ap (λ v. w ++ v) (sym (columns_more ns i (omega (arith, four)))))

in_row : (w a b c d : List ℕ) → w ++ (a ++ (b ++ (c ++ (d ++ [])))) ≡ (((w ++ a) ++ b) ++ c) ++ d
in_row w a b c d =
    ap (λ t. w ++ (a ++ (b ++ (c ++ t)))) (append-nil d)
    ∙ sym (append_assoc w a (b ++ (c ++ d)))
    ∙ sym (append_assoc (w ++ a) b (c ++ d))
    ∙ sym (append_assoc ((w ++ a) ++ b) c d)

row : (w : List ℕ) (a b c d : ℕ)
    → (w ++ columns (a ∷ b ∷ c ∷ d ∷ [])) ++ (10 ∷ []) ≡ w ++ number_column 11 a ++ number_column 11 b ++ number_column 11 c ++ number_column 11 d ++ (10 ∷ [])
row w a b c d =
    ap (λ t. t ++ (10 ∷ [])) (in_row w (number_column 11 a) (number_column 11 b) (number_column 11 c) (number_column 11 d))

-- A slip is its word, its columns and a newline.
parts : (x : Slip) → (slip_word x ++ columns (slip_numbers x)) ++ (10 ∷ []) ≡ slip_text x
parts Clear = row (slip_word Clear) 0 0 0 0
parts (Leak s) = row (slip_word (Leak s)) s.node s.operand (bound_number s.bound) s.name
parts (Refused r) = row (slip_word (Refused r)) (rule_number r.rule) r.line r.field 0

pub four_numbers : (x : Slip) → length (slip_numbers x) ≡ 4
four_numbers Clear = refl
four_numbers (Leak s) = refl
four_numbers (Refused r) = refl

length_columned : (x : Slip) → length (slip_word x ++ columns (slip_numbers x)) ≡ 52
length_columned x =
    length-append (slip_word x) (columns (slip_numbers x))
    ∙ omega (arith, length_word x, length_columns (slip_numbers x), four_numbers x)

pub length_slip : (x : Slip) → length (slip_text x) ≡ 53
length_slip x =
    ap length (sym (parts x)) ∙ length-append (slip_word x ++ columns (slip_numbers x)) (10 ∷ []) ∙ ap (λ n. n + 1) (length_columned x)

-- All numbers are written over 53 bytes, and then the newline.
pub ended :
    (x : Slip) (s s₁ s₂ : List ℕ) (i : ℕ)
    → length s ≡ 53
    → 4 ≤ i
    → s₁ ≡ over 0 (slip_word x ++ columns (take i (slip_numbers x))) s
    → s₂ ≡ over 52 (10 ∷ []) s₁
    → s₂ ≡ slip_text x
ended x s s₁ s₂ i l h e₁ e₂ =
    let all : take i (slip_numbers x) ≡ slip_numbers x = take_all i (slip_numbers x) (omega (arith, four_numbers x)) in
    over_next s s₁ s₂ (slip_word x ++ columns (slip_numbers x)) (10 ∷ []) 0 52 (length_columned x) (omega arith)
    (e₁ ∙ ap (λ ns. over 0 (slip_word x ++ columns ns) s) all) e₂
    ∙ ap (λ t. over 0 t s) (parts x)
    ∙ ap (λ d. slip_text x ++ d) (drop_all (0 + length (slip_text x)) s (omega (arith, length_slip x)))
    ∙ append-nil (slip_text x)
