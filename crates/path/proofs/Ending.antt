-- What a hunt keeps, and why one that finds no beginning shows that there is none.
use Rattle.std.proofs.Common.{◌≡◌, ℕ, ◌+◌, ◌<◌, ◌≤◌, sym, refl, ap, ◌∙◌, subst, inl, inr, arith}
use Rattle.std.proofs.lemmas.Bool.{cases_eq, cases_lt}
use Rattle.rules.specs.Routine.{Routine, WellFormed}
use Rattle.rules.specs.Reach.{Reaches}
use Rattle.rules.specs.Reach.Reaches.{here, kept, from_scalar, from_array}
use Rattle.rules.proofs.Reaching.{reached_scalar}
use Rattle.path.specs.declared.place.Place.{Place}
use Rattle.path.specs.declared.place.Origin.{Origin}
use Rattle.path.specs.declared.place.Origin.TheVariants.{Start, Read}
use Rattle.path.specs.declared.hunt.Entry.{Entry}
use Rattle.path.specs.declared.hunt.Hunt.{Hunt}
use Rattle.path.specs.Ways.{Moves, Begins, at_place}
use Rattle.path.specs.Hunts.{entry_at, place_at, Extends, MetAt, Hunting}

module _ (r : Routine) (m : ℕ) (to : Place) where
  module _ (h new : Hunt) (i : ℕ) (H : Hunting r m to h i) (within : i < h.count) (none : (o : Origin) → Begins r m (place_at h i) o → ⊥)
      (E : Extends r h new i) (met : (p k : ℕ) → k < r.scalars → MetAt r new (place_at h i) p k) where
    same_place : (e : ℕ) → e < h.count → place_at new e ≡ place_at h e
    same_place e b = ap (λ (x : Entry). x.place) (E.kept e b)

    inside_now : (e : ℕ) → e < new.count → (place_at new e).scalar < r.scalars
    inside_now e b = elim (cases_lt e h.count) [
      | inl l ↦ subst (λ (a : Place). a.scalar < r.scalars) (sym (same_place e l)) (H.inside e l)
      | inr g ↦ (E.fresh e g b).2
    ]

    leads_now : (e : ℕ) → 0 < e → e < new.count → ((entry_at new e).next < e) × Moves r (place_at new e) (place_at new (entry_at new e).next)
    leads_now e z b = elim (cases_lt e h.count) [
      | inl l ↦
          let old = H.leads e z l in
          let back : place_at new (entry_at h e).next ≡ place_at h (entry_at h e).next = same_place (entry_at h e).next (omega (arith, old.0)) in
          subst (λ (x : Entry). (x.next < e) × Moves r x.place (place_at new x.next)) (sym (E.kept e l))
          (old.0, subst (Moves r (place_at h e)) (sym back) old.1)
      | inr g ↦
          let f = E.fresh e g b in
          let back : place_at new (entry_at new e).next ≡ place_at h i = ap (place_at new) f.0 ∙ same_place i within in
          (omega (arith, f.0), subst (Moves r (place_at new e)) (sym back) f.1)
    ]

    pub hunting_more : Hunting r m to new (i + 1)
    hunting_more =
        record {
          trailed = E.trailed H.trailed;
          some = omega (arith, H.some, E.more);
          first = same_place 0 H.some ∙ H.first;
          inside = inside_now;
          leads = leads_now;
          met =
              λ e b p k l.
              elim (cases_eq e i) [
                | inl is ↦ subst (λ (a : Place). MetAt r new a p k) (sym (ap (place_at new) is ∙ same_place i within)) (met p k l)
                | inr ne ↦
                    λ moves.
                    E.marked p k
                    (H.met e (omega arith) p k l (subst (Moves r (at_place p k)) (same_place e (omega arith)) moves))
              ];
          barren =
              λ e b o begins.
              elim (cases_eq e i) [
                | inl is ↦ none o (subst (λ (a : Place). Begins r m a o) (ap (place_at new) is ∙ same_place i within) begins)
                | inr ne ↦ H.barren e (omega arith) o (subst (λ (a : Place). Begins r m a o) (same_place e (omega arith)) begins)
              ];
        }

module _ (r : Routine) (wf : WellFormed r) (to : Place) (h : Hunt) (i : ℕ) (past : h.count ≤ i) where
  -- whatever leads on to an entry has an entry
  found :
      {m : ℕ} → Hunting r m to h i → (e : ℕ) → e < h.count → (p k : ℕ) → k < r.scalars → Moves r (at_place p k) (place_at h e) → (f : ℕ) × (f < h.count) × (place_at h f ≡ at_place p k)
  found H e b p k l moves = H.trailed.told p k (omega (arith, l, wf.few_scalars)) (H.met e (omega arith) p k l moves)

  unreached : {m p k : ℕ} → Hunting r m to h i → Reaches r m p k → (e : ℕ) → e < h.count → place_at h e ≡ at_place p k → ⊥
  unreached H (here {k = k} l) e b is = H.barren e (omega arith) Start (subst (λ (a : Place). Begins r k a Start) (sym is) (refl, refl, l))
  unreached H (kept {p = p} {q = q} {k = k} l next keeps x) e b is =
      let f = found H e b p k (reached_scalar r wf x) (subst (Moves r (at_place p k)) (sym is) (record { at_node = l; goes = next; carries = inl (keeps, refl) })) in
      unreached H x f.0 f.1 f.2
  unreached H (from_scalar {p = p} {q = q} {a = a} {d = d} l next sets reads x) e b is =
      let f = found H e b p a (reached_scalar r wf x) (subst (Moves r (at_place p a)) (sym is) (record { at_node = l; goes = next; carries = inr (sets, reads) })) in
      unreached H x f.0 f.1 f.2
  unreached H (from_array {p = p} {q = q} {d = d} t l next sets reads) e b is =
      H.barren e (omega arith) (Read p) (subst (λ (a : Place). Begins r (r.scalars + t) a (Read p)) (sym is) (l, (next, sets, (t, reads, refl))))

  pub none_reaches : {m : ℕ} → Hunting r m to h i → Reaches r m to.point to.scalar → ⊥
  none_reaches H x = unreached H x 0 H.some H.first
