-- One row put into another, cell by cell.
use Rattle.std.proofs.Common.{◌≡◌, ℕ, ◌+◌, ◌-◌, ◌^◌, ◌<◌, ◌≤◌, Bool, true, false, ◌||◌, ◌⊎◌, ◌↔◌, List, length, get_or, set, refl, ap, ◌∙◌, inl, inr, arith}
use Rattle.std.proofs.lemmas.List.Sums.{sum_by-set}
use Rattle.std.proofs.lemmas.List.{get_or-set_same, get_or-set_other, length-set, get_or_past, set-get_or}
use Rattle.std.proofs.lemmas.Bool.{cases_eq, cases_lt, cases_Bool, or_right, true≢false, false≢true}
use Rattle.levels.specs.declared.name_set.NameSet.{NameSet}
use Rattle.levels.specs.Names.{Has, no_names}
use Rattle.reach.specs.Merging.{space, Joined}
use Rattle.levels.proofs.Bits.{bit_zero}

-- the first i cells are joined, and the others are as they were
pub record Joining (old from row : List NameSet) (grew : Bool) (i : ℕ) : Type 0 where
  pub long : length row ≡ length old
  pub below : (j name : ℕ) → j < i → (Has (get_or row j no_names) name ↔ (Has (get_or old j no_names) name ⊎ Has (get_or from j no_names) name))
  pub above : (j : ℕ) → i ≤ j → get_or row j no_names ≡ get_or old j no_names
  pub same : grew ≡ false → row ≡ old
  pub falls : grew ≡ true → space row < space old
  pub le : space row ≤ space old

pub none_empty : (name : ℕ) → Has no_names name → ⊥
none_empty name h = omega (arith, bit_zero name)

pub joining_none : (old from : List NameSet) → Joining old from old false 0
joining_none old from = record {
  long = refl;
  below = λ j name h. absurd (omega arith);
  above = λ j h. refl;
  same = λ h. refl;
  falls = λ h. absurd (false≢true h);
  le = omega arith;
}

module _ (old from row : List NameSet) (grew : Bool) (i : ℕ) (v : NameSet) (J : Joining old from row grew i) (within : i < length old)
    (either : (name : ℕ) → (Has v name ↔ (Has (get_or row i no_names) name ⊎ Has (get_or from i no_names) name))) where
  here : (name : ℕ) → (Has v name ↔ (Has (get_or old i no_names) name ⊎ Has (get_or from i no_names) name))
  here name = rw (J.above i (omega arith)) at (either name)

  same_set : v.bits ≡ (get_or row i no_names).bits → v ≡ get_or row i no_names
  same_set e = ap (λ b. let s : NameSet = record { bits = b } in s) e

  joining_kept : v.bits ≡ (get_or row i no_names).bits → Joining old from row grew (i + 1)
  joining_kept e = record {
    long = J.long;
    below = λ j name h. elim (cases_eq j i) [
      | inl q ↦ rw (q, ← (same_set e)) (here name)
      | inr ne ↦ J.below j name (omega arith)
    ];
    above = λ j h. J.above j (omega arith);
    same = J.same;
    falls = J.falls;
    le = J.le;
  }

  abbrev put : List NameSet
  put = set row i v

  at_here : get_or put i no_names ≡ v
  at_here = get_or-set_same row i v no_names (omega (arith, J.long))

  at_else : (j : ℕ) → (j ≡ i → ⊥) → get_or put j no_names ≡ get_or row j no_names
  at_else j ne = get_or-set_other row i j v no_names ne

  room_falls : (get_or row i no_names).bits < v.bits → v.bits < 2 ^ 32 → space put < space row
  room_falls lt fits =
      omega (arith, sum_by-set (λ s. 2 ^ 32 - s.bits) row i v no_names (omega (arith, J.long)))

  joining_grown : (get_or row i no_names).bits < v.bits → v.bits < 2 ^ 32 → Joining old from put true (i + 1)
  joining_grown lt fits = record {
    long = length-set row i v ∙ J.long;
    below = λ j name h. elim (cases_eq j i) [
      | inl q ↦ rw (q, at_here) (here name)
      | inr ne ↦ rw (at_else j ne) (J.below j name (omega arith))
    ];
    above = λ j h. at_else j (omega arith) ∙ J.above j (omega arith);
    same = λ h. absurd (true≢false h);
    falls = λ h. omega (arith, room_falls lt fits, J.le);
    le = omega (arith, room_falls lt fits, J.le);
  }

  or_neither : (g d : Bool) → d ≡ false → (g || d) ≡ g
  or_neither true d e = refl
  or_neither false d e = e

  -- the cell at i joined, where `differs` tells whether that changed it
  pub joining_more : (differs : Bool) → (differs ≡ false → v.bits ≡ (get_or row i no_names).bits) → (differs ≡ true → (get_or row i no_names).bits < v.bits) → v.bits < 2 ^ 32 → Joining old from put (grew || differs) (i + 1)
  joining_more d same more fits = elim (cases_Bool d) [
    | inl e ↦ rw (or_right grew d e) (joining_grown (more e) fits)
    | inr e ↦
        let unchanged : put ≡ row = ap (λ x. set row i x) (same_set (same e)) ∙ set-get_or row i no_names in
        rw (or_neither grew d e, unchanged) (joining_kept (same e))
  ]

past : (sets : List NameSet) (k name : ℕ) → length sets ≤ k → Has (get_or sets k no_names) name → ⊥
past sets k name h x = none_empty name (rw (get_or_past sets k no_names h) at x)

pub joining_all : (old from row : List NameSet) (grew : Bool) (i : ℕ) → Joining old from row grew i → length old ≡ length from → length old ≤ i → Joined old from row grew
joining_all old from row grew i J e h = record {
  joins = λ k name. elim (cases_lt k (length old)) [
    | inl l ↦ J.below k name (omega arith)
    | inr g ↦ (
      λ x. absurd (past row k name (omega (arith, J.long)) x),
      λ x. elim x [ inl y ↦ absurd (past old k name g y) | inr y ↦ absurd (past from k name (omega arith) y) ],
    )
  ];
  same = J.same;
  falls = J.falls;
}
