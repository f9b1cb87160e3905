-- The pieces of a text between its newlines are its lines, and perhaps an empty one behind them, which says nothing.
use Rattle.std.proofs.Common.{◌≡◌, ℕ, ◌+◌, ◌<◌, ◌≤◌, Bool, true, false, cond, eqb, ◌==◌, ◌⊎◌, inl, inr, List, [], ◌∷◌, ◌++◌, length, get_or, drop, Ok, Err, Result, sym, refl, ap, ◌∙◌, arith}
use Rattle.std.specs.List.{slice_split, onto_first, enumerate_from}
use Rattle.std.proofs.lemmas.List.{drop_more, drop_all}
use Rattle.std.proofs.lemmas.List.FromFn.{get_or-enumerate_from, length-enumerate_from}
use Rattle.listing.specs.declared.parts.Listing.{Listing}
use Rattle.run.specs.declared.memory.Memory.{Memory}
use Rattle.values.specs.declared.draft.Draft.{Draft}
use Rattle.values.specs.declared.faults.Reason.{Reason}
use Rattle.values.specs.declared.faults.ValuesFault.{ValuesFault}
use Rattle.values.specs.Words.{lines_of}
use Rattle.std.specs.Result.{MatchResult, IsErrAnd}
use Rattle.values.specs.Values.{outcome, put_line, at_line, values_from, memory_of}

abbrev pub pieces : List ℕ → List (List ℕ)
pieces s = slice_split (λ b. b == 10) s

-- The pieces ps are the lines ls, of which there is one at least, or the lines and an empty one.
abbrev Cut : List (List ℕ) → List (List ℕ) → Type 0
Cut ps ls = ((x : List ℕ) × ((xs : List (List ℕ)) × ((ps ≡ x ∷ xs) × (ls ≡ x ∷ xs)))) ⊎ (ps ≡ ls ++ ([] ∷ []))

cut_onto : (b : ℕ) (ps ls : List (List ℕ)) → Cut ps ls → Cut (onto_first b ps) (onto_first b ls)
cut_onto b ps ls (inl (x, (xs, (e, f)))) = inl (b ∷ x, (xs, (ap (onto_first b) e, ap (onto_first b) f)))
cut_onto b ps [] (inr e) = inl (b ∷ [], ([], (ap (onto_first b) e, refl)))
cut_onto b ps (l ∷ ls) (inr e) = inr (ap (onto_first b) e)

cut_more : (t : Bool) (b : ℕ) (ps ls : List (List ℕ)) → Cut ps ls → Cut (cond t ([] ∷ ps) (onto_first b ps)) (cond t ([] ∷ ls) (onto_first b ls))
cut_more true b ps ls (inl (x, (xs, (e, f)))) = inl ([], (x ∷ xs, (ap (λ zs. [] ∷ zs) e, ap (λ zs. [] ∷ zs) f)))
cut_more true b ps ls (inr e) = inr (ap (λ zs. [] ∷ zs) e)
cut_more false b ps ls c = cut_onto b ps ls c

cut : (s : List ℕ) → Cut (pieces s) (lines_of s)
cut [] = inr refl
cut (b ∷ s) = cut_more (eqb b 10) b (pieces s) (lines_of s) (cut s)

at_same : (n : ℕ) (r : Result Draft Reason) (f g : Draft → Result Memory ValuesFault) → ((e : Draft) → f e ≡ g e) → at_line n r f ≡ at_line n r g
at_same n (Ok d) f g h = h d
at_same n (Err e) f g h = refl

empty_behind : (t : Listing) (n : ℕ) (ls : List (List ℕ)) (d : Draft) → values_from t n (ls ++ ([] ∷ [])) d ≡ values_from t n ls d
empty_behind t n [] d = refl
empty_behind t n (l ∷ ls) d = at_same (n + 1) (put_line t l d) _ _ (λ e. empty_behind t (n + 1) ls e)

same_values : (t : Listing) (d : Draft) (ps ls : List (List ℕ)) → Cut ps ls → values_from t 0 ps d ≡ values_from t 0 ls d
same_values t d ps ls (inl (x, (xs, (e, f)))) = ap (λ zs. values_from t 0 zs d) e ∙ sym (ap (λ zs. values_from t 0 zs d) f)
same_values t d ps ls (inr e) = ap (λ zs. values_from t 0 zs d) e ∙ empty_behind t 0 ls d

pub by_pieces : (t : Listing) (s : List ℕ) (d : Draft) → values_from t 0 (pieces s) d ≡ values_from t 0 (lines_of s) d
by_pieces t s d = same_values t d (pieces s) (lines_of s) (cut s)

-- What piece n and those behind it come to.
pub by_piece : (t : Listing) (ps : List (List ℕ)) (n : ℕ) (d : Draft) (l : List ℕ) → n < length ps → l ≡ get_or ps n l →
    values_from t n (drop n ps) d ≡ at_line (n + 1) (put_line t l d) (λ e. values_from t (n + 1) (drop (n + 1) ps) e)
by_piece t ps n d l h p =
    ap (λ ls. values_from t n ls d) (drop_more ps n l h)
    ∙ ap (λ (x : List ℕ). at_line (n + 1) (put_line t x d) (λ e. values_from t (n + 1) (drop (n + 1) ps) e)) (sym p)

pub no_pieces : (t : Listing) (ps : List (List ℕ)) (n : ℕ) (d : Draft) → length ps ≤ n → values_from t n (drop n ps) d ≡ Ok (memory_of d)
no_pieces t ps n d h = ap (λ ls. values_from t n ls d) (drop_all n ps h)

-- Piece n, as it is met with its number.
pub numbered : (ps : List (List ℕ)) (n a : ℕ) (l : List ℕ)
    → (n < length (enumerate_from 0 ps)) × ((a, l) ≡ get_or (enumerate_from 0 ps) n (a, l))
    → (n < length ps) × (a ≡ n) × (l ≡ get_or ps n l)
numbered ps n a l y =
    let h : n < length ps = omega (arith, length-enumerate_from 0 ps, y.0) in
    let e = y.1 ∙ get_or-enumerate_from 0 ps n (a, l) h in
    let k : a ≡ 0 + n = ap (λ (p : ℕ × List ℕ). p.0) e in
    (h, omega (arith, k), ap (λ (p : ℕ × List ℕ). p.1) e)

-- The line's answer, with the number of the line where it is refused.
abbrev pub with_line : ℕ → Result (Unit {0}) Reason → Result (Unit {0}) ValuesFault
with_line n (Ok u) = Ok u
with_line n (Err e) = Err (record { line = n; reason = e })

pub maps_to : (n : ℕ) (r : Result (Unit {0}) Reason) (q : Result (Unit {0}) ValuesFault) (P : Reason → ValuesFault → Type 0)
    → MatchResult r (λ u. q ≡ Ok u) (λ e. IsErrAnd q (P e))
    → ((e : Reason) (f : ValuesFault) → P e f → f ≡ record { line = n; reason = e })
    → q ≡ with_line n r
maps_to n (Ok u) q P h is = h
maps_to n (Err e) (Ok u) P h is = absurd h
maps_to n (Err e) (Err f) P h is = ap Err (is e f h)

module _ (n : ℕ) (q : Result (Unit {0}) ValuesFault) (d : Draft) (o : Result Draft Reason) where
  pub taken : (r : Result (Unit {0}) Reason) (u : Unit {0}) → q ≡ with_line n r → q ≡ Ok u → outcome r d ≡ o → Ok d ≡ o
  taken (Ok v) u a b e = e
  taken (Err f) u a b e = cc

  pub refused : (r : Result (Unit {0}) Reason) (f : ValuesFault) (k : Draft → Result Memory ValuesFault) → q ≡ with_line n r → q ≡ Err f → outcome r d ≡ o → Err f ≡ at_line n o k
  refused (Ok v) f k a b e = cc
  refused (Err g) f k a b e = let same : f ≡ record { line = n; reason = g } = cc in ap Err same ∙ ap (λ p. at_line n p k) e
