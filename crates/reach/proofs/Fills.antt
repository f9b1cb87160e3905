-- The open names, filled in point by point.
use Rattle.std.proofs.Common.{ℕ, ◌+◌, ◌<◌, ◌⊎◌, ◌↔◌, List, length, get_or, set, inl, inr, arith}
use Rattle.std.proofs.lemmas.List.{get_or-set_same, get_or-set_other}
use Rattle.std.proofs.lemmas.Bool.{cases_eq}
use Rattle.levels.specs.declared.name_set.NameSet.{NameSet}
use Rattle.levels.specs.Names.{Has, no_names}

-- the union of two sets, each of them told
pub either_told : {A B V : Type 0} {P Q : Type 0} → (V ↔ (A ⊎ B)) → (A ↔ P) → (B ↔ Q) → (V ↔ (P ⊎ Q))
either_told u a b = (
  λ h. elim (u.0 h) [ inl x ↦ inl (a.0 x) | inr y ↦ inr (b.0 y) ],
  λ h. u.1 (elim h [ inl x ↦ inl (a.1 x) | inr y ↦ inr (b.1 y) ]),
)

-- the sets below i are told by X, and so is v at i
pub told_more :
    (X : ℕ → ℕ → Type 0) (xs : List NameSet) (i : ℕ) (v : NameSet)
    → i < length xs
    → ((p x : ℕ) → (Has (get_or xs p no_names) x ↔ ((p < i) × X p x)))
    → ((x : ℕ) → (Has v x ↔ X i x))
    → (p x : ℕ)
    → (Has (get_or (set xs i v) p no_names) x ↔ ((p < i + 1) × X p x))
told_more X xs i v within before here p x = elim (cases_eq p i) [
  | inl e ↦ rw (e, get_or-set_same xs i v no_names within) (λ h. (omega arith, (here x).0 h), λ h. (here x).1 h.1)
  | inr ne ↦
      rw (get_or-set_other xs i p v no_names ne)
      (λ h. let b = (before p x).0 h in (omega (arith, b.0), b.1), λ h. (before p x).1 (omega (arith, h.0), h.1))
]
