-- An input, parted at its first newline.
use Rattle.std.proofs.Common.{◌≡◌, ℕ, ◌+◌, ◌-◌, ◌<◌, List, [], ◌∷◌, ◌++◌, length, get_or, take, drop, sym, refl, ap, ◌∙◌, subst, inl, inr, arith, length-drop}
use Rattle.std.proofs.lemmas.List.{drop_more, take_all, take-append-drop, length-take-le, get_or-take}
use Rattle.verdict.specs.Inputs.{NoNewline, Parted}

-- the part of s from a up to e, as a slice has it
abbrev pub cut : ℕ → ℕ → List ℕ → List ℕ
cut a e s = take (e - a) (drop a s)

cut_rest : (s : List ℕ) (a : ℕ) → cut a (length s) s ≡ drop a s
cut_rest s a = take_all (length s - a) (drop a s) (simp length-drop (omega arith))

-- at a newline, which is the first
pub parted_at :
    (s : List ℕ) (e : ℕ)
    → e < length s
    → NoNewline s e
    → get_or s e 0 ≡ 10
    → Parted s (take e s) (cut (e + 1) (length s) s)
parted_at s e h before here =
    let l : length (take e s) ≡ e = length-take-le e s (omega arith) in
    let p : Parted s (take e s) (drop (e + 1) s) =
    record {
      no_newline = λ k lt g. before k (omega arith) (sym (get_or-take e s k 0 (omega arith)) ∙ g);
      whole =
          inl (sym (take-append-drop e s) ∙ ap (λ t. take e s ++ t) (drop_more s e 0 h ∙ ap (λ b. b ∷ drop (e + 1) s) here));
    } in
    subst (λ x. Parted s (take e s) x) (sym (cut_rest s (e + 1))) p

-- where there is none
pub unparted : (s : List ℕ) → NoNewline s (length s) → Parted s s []
unparted s before = record { no_newline = before; whole = inr (refl, refl) }
