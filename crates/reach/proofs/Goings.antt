-- What each step keeps, and why the last table is exact.
use Rattle.std.proofs.Common.{◌≡◌, ℕ, ◌+◌, ◌<◌, ◌≤◌, Bool, false, ◌||◌, ◌⊎◌, sym, refl, subst, inl, inr, arith}
use Rattle.std.proofs.lemmas.Bool.{cases_eq, both_ways, or_cases, or_parts}
use Rattle.levels.specs.Names.{Has}
use Rattle.rules.specs.Routine.{Routine, node, end, Next}
use Rattle.rules.specs.Reach.{Reaches}
use Rattle.rules.specs.Reach.Reaches.{here, kept, from_scalar, from_array}
use Rattle.reach.specs.declared.table.ReachTable.{ReachTable}
use Rattle.reach.specs.declared.work.Work.{Work}
use Rattle.reach.specs.Passing.{Flow}
use Rattle.reach.specs.Table.{at, row_at, cell, TellsReach}
use Rattle.reach.specs.Work.{pending_at, Passes, Passed, Settled, Going, Sweeping, Swept, Started}

-- what a sound table passes on reaches
passes_sound :
    (r : Routine) (t : ReachTable) (p q name k : ℕ)
    → p < end r
    → ((name q k : ℕ) → Has (cell t q k) name → Reaches r name q k)
    → Next (node r p) p q
    → Passes r t p name k
    → Reaches r name q k
passes_sound r t p q name k l s n f = elim f [
  | inl x ↦ kept l n x.0 (s name p k x.1)
  | inr x ↦ elim x.1 [
    | inl y ↦ from_scalar l n x.0 y.1 (s name p y.0 y.2)
    | inr y ↦ subst (λ m. Reaches r m q k) (sym y.2) (from_array y.0 l n x.0 y.1)
  ]
]

-- a node passes on by its own row alone
passes_same : (r : Routine) (old new : ReachTable) (p name k : ℕ) → row_at new p ≡ row_at old p → Passes r new p name k → Passes r old p name k
passes_same r old new p name k e f = subst (λ row. Flow r.scalars (node r p) (λ j. Has (at row j) name) name k) e f

module _ (r : Routine) (old new : Work) (p : ℕ) (back : Bool) (within : p < end r) (G : Going r old) (P : Passed r old new p back) where
  -- a node whose row did not change, and which is the one passed on or was settled before, is settled
  settled_still :
      (k : ℕ)
      → row_at new.table k ≡ row_at old.table k
      → (k ≡ p) ⊎ Settled r old.table k
      → Settled r new.table k
  settled_still k same (inl e) name q j n f =
      (P.gains q j name).1 (inr (rw e at n, rw e at (passes_same r old.table new.table k name j same f)))
  settled_still k same (inr S) name q j n f =
      (P.gains q j name).1 (inl (S name q j n (passes_same r old.table new.table k name j same f)))

  pub going_on : Going r new
  going_on = record {
    shape = P.shape;
    sound = λ name q k h. elim ((P.gains q k name).0 h) [
      | inl x ↦ G.sound name q k x
      | inr x ↦ passes_sound r old.table p q name k within G.sound x.0 x.1
    ];
    starts = λ name l. (P.gains 0 name name).1 (inl (G.starts name l));
    settled = λ k l s.
        settled_still k (P.still k s) (elim (cases_eq k p) [ inl e ↦ inl e | inr ne ↦ inr (G.settled k l (P.was_still k s ne)) ]);
  }

module _ (r : Routine) (old mid : Work) (i : ℕ) (again : Bool) (S : Sweeping r old mid i again) where
  pub swept_past : pending_at mid i ≡ false → Sweeping r old mid (i + 1) again
  swept_past c = record {
    going = S.going;
    clean = λ h k l. elim (cases_eq k i) [ inl e ↦ rw e c | inr ne ↦ S.clean h k (omega arith) ];
    falls = S.falls;
    less = S.less;
  }

  pub swept_on : (new : Work) (back : Bool) → i < end r → Passed r mid new i back → Sweeping r old new (i + 1) (again || back)
  swept_on new back within P = record {
    going = going_on r mid new i back within S.going P;
    clean = λ h k l.
        let none = or_parts again back h in
        P.clean none.1 k (omega arith) (elim (cases_eq k i) [ inl e ↦ inl e | inr ne ↦ inr (S.clean none.0 k (omega arith)) ]);
    falls = λ h. elim (or_cases again back h) [ inl e ↦ omega (arith, S.falls e, P.less) | inr e ↦ omega (arith, S.less, P.falls e) ];
    less = omega (arith, S.less, P.less);
  }

pub going_first : (r : Routine) (w : Work) → end r ≤ 128 → Started r.scalars w → Going r w
going_first r w few S = record {
  shape = S.shape;
  sound = λ name p k h. let q = (S.holds p k name).0 h in rw (q.0, q.1) (here q.2);
  starts = λ name l. (S.holds 0 name name).1 (refl, refl, l);
  settled = λ k l s. absurd (both_ways (pending_at w k) s (S.all_pending k (omega arith)));
}

module _ (r : Routine) (old w : Work) (S : Swept r old w false) where
  settled_all : (k : ℕ) → k < end r → Settled r w.table k
  settled_all k l = S.going.settled k l (S.clean refl k l)

  complete : {name p k : ℕ} → Reaches r name p k → Has (cell w.table p k) name
  complete (here {k = k} l) = S.going.starts k l
  complete (kept {m = m} {p = p} {q = q} {k = k} l n ns x) = settled_all p l m q k n (inl (ns, complete x))
  complete (from_scalar {m = m} {p = p} {q = q} {a = a} {d = d} l n st rd x) =
      settled_all p l m q d n (inr (st, inl (a, rd, complete x)))
  complete (from_array {p = p} {q = q} {d = d} t l n st ra) = settled_all p l (r.scalars + t) q d n (inr (st, inr (t, ra, refl)))

  pub exact : TellsReach r w.table
  exact name p k = (S.going.sound name p k, complete)
