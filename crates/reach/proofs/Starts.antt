-- The table before the first step.
use Rattle.std.proofs.Common.{◌≡◌, ℕ, zero, suc, ◌+◌, ◌<◌, ◌≤◌, true, false, ◌↔◌, [], ◌∷◌, length, get_or, set, replicate, refl, inl, inr, arith}
use Rattle.std.proofs.lemmas.List.{get_or-set_same, get_or-set_other, get_or-replicate, get_or_past, length-replicate}
use Rattle.std.proofs.lemmas.Bool.{cases_eq, cases_lt}
use Rattle.levels.specs.declared.name_set.NameSet.{NameSet}
use Rattle.levels.specs.Names.{Has, no_names}
use Rattle.reach.specs.declared.table.Row.{Row}
use Rattle.reach.specs.Table.{at}
use Rattle.reach.specs.Work.{Started}
use Rattle.reach.proofs.Joining.{none_empty}

pub empty_cells : (n : ℕ) (v : NameSet) → ((name : ℕ) → Has v name → ⊥) → (k name : ℕ) → Has (get_or (replicate n v) k no_names) name → ⊥
empty_cells n v h k name x = elim (cases_lt k n) [
  | inl l ↦ h name (rw (get_or-replicate n k v no_names l) at x)
  | inr g ↦
      let long : length (replicate n v) ≤ k = omega (arith, length-replicate n v) in
      none_empty name (rw (get_or_past (replicate n v) k no_names long) at x)
]

empty_rows : (n : ℕ) (e : Row) → ((k name : ℕ) → Has (at e k) name → ⊥) → (p k name : ℕ) → Has (at (get_or (replicate n e) p (record { sets = [] })) k) name → ⊥
empty_rows n e h p k name x = elim (cases_lt p n) [
  | inl l ↦ h k name (rw (get_or-replicate n p e (record { sets = [] }) l) at x)
  | inr g ↦
      let long : length (replicate n e) ≤ p = omega (arith, length-replicate n e) in
      none_empty name (rw (get_or_past (replicate n e) p (record { sets = [] }) long) at x)
]

module _ (row : Row) (i : ℕ) (v : NameSet) (long : length row.sets ≡ 24) (within : i < 24)
    (so_far : (k name : ℕ) → (Has (at row k) name ↔ ((k ≡ name) × (name < i)))) (one : (k : ℕ) → (Has v k ↔ ((k < 32) × (k ≡ i)))) where
  pub start_more : (k name : ℕ) → (Has (get_or (set row.sets i v) k no_names) name ↔ ((k ≡ name) × (name < i + 1)))
  start_more k name = elim (cases_eq k i) [
    | inl e ↦
        let is : get_or (set row.sets i v) k no_names ≡ v = rw e (get_or-set_same row.sets i v no_names (omega arith)) in
        rw is (λ h. omega (arith, ((one name).0 h).1), λ h. (one name).1 (omega arith))
    | inr ne ↦
        rw (get_or-set_other row.sets i k v no_names ne) (λ h. omega (arith, (so_far k name).0 h), λ h. (so_far k name).1 (omega arith))
  ]

module _ (s : ℕ) (e row : Row) (empty : (k name : ℕ) → Has (at e k) name → ⊥)
    (first : (k name : ℕ) → (Has (at row k) name ↔ ((k ≡ name) × (name < s)))) where
  started_holds :
      (n p k name : ℕ) → (Has (at (get_or (row ∷ replicate n e) p (record { sets = [] })) k) name ↔ ((p ≡ 0) × (k ≡ name) × (name < s)))
  started_holds n zero k name = (λ h. (refl, ((first k name).0 h).0, ((first k name).0 h).1), λ h. (first k name).1 (h.1, h.2))
  started_holds n (suc p) k name = (λ h. absurd (empty_rows n e empty p k name h), λ h. absurd (omega arith))

  pub started_work : Started s (record { table = record { rows = row ∷ replicate 128 e }; pending = replicate 129 true })
  started_work = record {
    shape = record { rows = refl; flags = refl };
    holds = started_holds 128;
    all_pending = λ p l. get_or-replicate 129 p true false l;
  }
