-- Places noted one after the other.
use Rattle.std.proofs.Common.{◌≡◌, ℕ, ◌+◌, ◌<◌, sym, refl, ap, ◌∙◌, subst, inl, inr, arith}
use Rattle.std.proofs.lemmas.Bool.{cases_eq, cases_lt}
use Rattle.rules.specs.Routine.{Routine}
use Rattle.path.specs.declared.place.Place.{Place}
use Rattle.path.specs.declared.hunt.Entry.{Entry}
use Rattle.path.specs.declared.hunt.Hunt.{Hunt}
use Rattle.path.specs.Ways.{Moves, at_place}
use Rattle.path.specs.Hunts.{entry_at, place_at, Noted, Extends, MetAt}

-- what is told of an entry that leads on to a place
abbrev Leads : Routine → Place → ℕ → Entry → Type 0
Leads r to i x = (x.next ≡ i) × Moves r x.place to × (x.place.scalar < r.scalars)

pub extends_none : (r : Routine) (h : Hunt) (i : ℕ) → Extends r h h i
extends_none r h i = record {
  trailed = λ T. T;
  more = omega arith;
  kept = λ e l. refl;
  marked = λ p k s. s;
  fresh = λ e l m. absurd (omega arith);
}

module _ (r : Routine) (old : Hunt) (i : ℕ) (inside : i < old.count) where
  pub extends_on : (mid new : Hunt) → Extends r old mid i → Extends r mid new i → Extends r old new i
  extends_on mid new E F = record {
    trailed = λ T. F.trailed (E.trailed T);
    more = omega (arith, E.more, F.more);
    kept = λ e l. F.kept e (omega (arith, E.more)) ∙ E.kept e l;
    marked = λ p k s. F.marked p k (E.marked p k s);
    fresh = λ e l m. elim (cases_lt e mid.count) [
      | inl b ↦ subst (Leads r (place_at old i) i) (sym (F.kept e b)) (E.fresh e l b)
      | inr g ↦ subst (λ to. Leads r to i (entry_at new e)) (ap (λ (x : Entry). x.place) (E.kept i inside)) (F.fresh e g m)
    ];
  }

  extends_noted :
      (mid new : Hunt) (a : Place)
      → Extends r old mid i
      → Noted mid new a i
      → Moves r a (place_at old i)
      → a.scalar < r.scalars
      → Extends r old new i
  extends_noted mid new a E N M l = record {
    trailed = λ T. N.trailed (E.trailed T);
    more = omega (arith, E.more, N.more);
    kept = λ e b. N.kept e (omega (arith, E.more)) ∙ E.kept e b;
    marked = λ p k s. N.marked p k (E.marked p k s);
    fresh = λ e g m. elim (cases_lt e mid.count) [
      | inl b ↦ subst (Leads r (place_at old i) i) (sym (N.kept e b)) (E.fresh e g b)
      | inr n ↦ subst (Leads r (place_at old i) i) (sym (N.fresh e n m)) (refl, M, l)
    ];
  }

  module _ (mid : Hunt) (p k : ℕ) (E : Extends r old mid i) (met : (j : ℕ) → j < k → MetAt r mid (place_at old i) p j) where
    pub note_taken :
        (new : Hunt)
        → Noted mid new (at_place p k) i
        → Moves r (at_place p k) (place_at old i)
        → k < r.scalars
        → Extends r old new i × ((j : ℕ) → j < k + 1 → MetAt r new (place_at old i) p j)
    note_taken new N M l = (
      extends_noted mid new (at_place p k) E N M l,
      λ j b moves. elim (cases_eq j k) [
        | inl e ↦ rw e N.there
        | inr ne ↦ N.marked p j (met j (omega arith) moves)
      ],
    )

    pub note_passed :
        (Moves r (at_place p k) (place_at old i) → ⊥)
        → Extends r old mid i × ((j : ℕ) → j < k + 1 → MetAt r mid (place_at old i) p j)
    note_passed stays = (
      E,
      λ j b moves. elim (cases_eq j k) [
        | inl e ↦ absurd (stays (subst (λ x. Moves r (at_place p x) (place_at old i)) e moves))
        | inr ne ↦ met j (omega arith) moves
      ],
    )

  pub point_noted :
      (mid new : Hunt) (p s : ℕ)
      → Extends r old mid i
      → ((q k : ℕ) → q < p → k < s → MetAt r mid (place_at old i) q k)
      → Extends r mid new i
      → ((k : ℕ) → k < s → MetAt r new (place_at mid i) p k)
      → Extends r old new i × ((q k : ℕ) → q < p + 1 → k < s → MetAt r new (place_at old i) q k)
  point_noted mid new p s E met F here = (
    extends_on mid new E F,
    λ q k b l moves. elim (cases_eq q p) [
      | inl e ↦
          rw e
          (here k l
          (subst (λ to. Moves r (at_place p k) to) (sym (ap (λ (x : Entry). x.place) (E.kept i inside)))
          (subst (λ x. Moves r (at_place x k) (place_at old i)) e moves)))
      | inr ne ↦ F.marked q k (met q k (omega arith) l moves)
    ],
  )
