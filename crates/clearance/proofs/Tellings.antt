-- From the reach table and the search to what an examination tells.
use Rattle.std.proofs.Common.{◌≡◌, ℕ, zero, suc, ◌+◌, ◌<◌, ◌≤◌, Bool, true, false, List, length, Some, None, Ok, Err, Option, sym, refl, ap, ◌∙◌, inl, inr, arith}
use Rattle.std.proofs.lemmas.Bool.{cases_eq, both_ways, eqb-true, eq-eqb}
use Rattle.levels.specs.declared.name_set.NameSet.{NameSet}
use Rattle.levels.specs.Names.{bit, Has, has}
use Rattle.levels.specs.Tables.{start_level, FlowTo}
use Rattle.listing.specs.declared.routine.Routine.{Routine as Loaded}
use Rattle.listing.specs.Forms.{routine_of}
use Rattle.reach.specs.declared.table.ReachTable.{ReachTable}
use Rattle.reach.specs.declared.opens.OpenNames.{OpenNames}
use Rattle.reach.specs.Table.{cell, TellsReach}
use Rattle.reach.specs.Opens.{open_at, OpensBy}
use Rattle.reach.proofs.Loaded.{formed_of, end_of, arrays_of, limits_of}
use Rattle.rules.specs.Order.{Order, Lawful}
use Rattle.rules.specs.Leakage.{Leakage}
use Rattle.rules.specs.Routine.{Routine, arrays, end}
use Rattle.rules.specs.Reach.{Reaches, Bits, Exact}
use Rattle.rules.specs.Clearance.{Setting, Cleared, NoViolation, Open, joined, least_table}
use Rattle.rules.proofs.Reaching.{reaching_name}
use Rattle.rules.proofs.Tables.{least_typed}
use Rattle.clearance.specs.declared.leak.LeakSite.{LeakSite}
use Rattle.clearance.specs.declared.record.Examination.{Examination}
use Rattle.clearance.specs.Outcomes.{Outcome, is_granted, by_leak}
use Rattle.clearance.specs.Opens.{opens_of}
use Rattle.clearance.specs.Scenes.{Scene, scene, setting, Fitting}
use Rattle.clearance.specs.Stops.{LeakAnswer}
use Rattle.clearance.specs.Examinations.{RightOpens, RightOutcome, Examined}

-- The bits of a reach table.
abbrev pub reach_bits : ReachTable → ℕ → ℕ → ℕ → Bool
reach_bits t m p k = has (cell t p k) m

pub has_true : (s : NameSet) (k : ℕ) → has s k ≡ true → Has s k
has_true s k h = eqb-true (bit s.bits k) 1 h

pub true_has : (s : NameSet) (k : ℕ) → Has s k → has s k ≡ true
true_has s k h = eq-eqb (bit s.bits k) 1 h

pub exact_bits : (r : Routine) (t : ReachTable) → TellsReach r t → Exact r (Reaches r) (reach_bits t)
exact_bits r t T =
    record {
      derivable = λ m p k hm hp hk h. (T m p k).0 (has_true (cell t p k) m h);
      whole = λ m p k hm hp hk x. true_has (cell t p k) m ((T m p k).1 x);
    }

same_test : (a b : Bool) → (a ≡ true → b ≡ true) → (b ≡ true → a ≡ true) → a ≡ b
same_test true b f g = sym (f refl)
same_test false true f g = g refl
same_test false false f g = refl

module _
    {L : Type 0} (o : Order L) (l : Leakage) (x : Loaded) (levels : List L) (listener : L)
    (fit : Fitting (scene o l x.listing levels listener)) where
  abbrev C : Setting L
  C = setting (scene o l x.listing levels listener)

  abbrev r : Routine
  r = routine_of x.listing

  granted : Lawful o → (t : ReachTable) → TellsReach r t → NoViolation C → Cleared C
  granted laws t T clear =
      (least_table C.labelled (reach_bits t), least_typed C laws (formed_of x) (reach_bits t) (exact_bits r t T) clear)

  pub right_outcome :
      Lawful o → (t : ReachTable) → TellsReach r t → (leak : Option LeakSite) → LeakAnswer C leak → RightOutcome C (by_leak leak)
  right_outcome laws t T None clear = granted laws t T clear
  right_outcome laws t T (Some s) leak = leak

  in_levels : {m p k : ℕ} → Reaches r m p k → (m < 32) × (m < length levels)
  in_levels h =
      let a = reaching_name r (formed_of x) h in
      let few = limits_of x in
      (omega (arith, a, arrays_of x, few.scalars, few.arrays), omega (arith, a, arrays_of x, fit))

  module _ (t : ReachTable) (T : TellsReach r t) (heard : NameSet) (F : FlowTo o levels listener heard) (opens : OpenNames)
      (N : OpensBy x.listing t heard opens) where
    point : {p : ℕ} → p ≤ end r → p ≤ x.listing.counts.nodes
    point h = omega (arith, h, end_of x)

    told_scalar : (p k : ℕ) → p ≤ end r → k < x.listing.counts.scalars → opens_of opens p k ≡ true → Open C p k
    told_scalar p k hp hk h m reach =
        elim ((N p k).0 (has_true (open_at opens p) k h)).1 [
          | inl q ↦ ((F m).0 (q.1 m ((T m p k).1 reach))).2
          | inr q ↦ absurd (omega (arith, hk, q.0))
        ]

    tell_scalar : (p k : ℕ) → p ≤ end r → k < x.listing.counts.scalars → Open C p k → opens_of opens p k ≡ true
    tell_scalar p k hp hk op =
        true_has (open_at opens p) k
        ((N p k).1
        (point hp, inl (hk, λ m h. let reach = (T m p k).0 h in (F m).1 ((in_levels reach).0, (in_levels reach).1, op m reach))))

    told_array :
        (p t : ℕ)
        → p ≤ end r
        → t < x.listing.counts.arrays
        → opens_of opens p (x.listing.counts.scalars + t) ≡ o.flows (start_level o levels (x.listing.counts.scalars + t)) listener
    told_array p t hp ht =
        let y = x.listing.counts.scalars + t in
        let few = limits_of x in
        same_test (opens_of opens p y) (o.flows (start_level o levels y) listener)
        (λ h. elim ((N p y).0 (has_true (open_at opens p) y h)).1 [
          | inl q ↦ absurd (omega (arith, q.0))
          | inr q ↦ ((F y).0 q.2).2
        ])
        (λ h.
        true_has (open_at opens p) y
        ((N p y).1
        (point hp, inr (omega arith, omega (arith, ht), (F y).1 (omega (arith, ht, few.scalars, few.arrays), omega (arith, ht, fit), h)))))

    pub right_opens : RightOpens C x.listing.counts.arrays opens
    right_opens = record { scalars = record { sound = told_scalar; whole = tell_scalar }; array_is = told_array }

-- Two tests that pick the same below a count join the same.
pub joined_same : {L : Type 0} (o : Order L) (level : ℕ → L) (f g : ℕ → Bool) (n : ℕ) → ((k : ℕ) → k < n → f k ≡ g k) → joined o level f n ≡ joined o level g n
joined_same o level f g zero same = refl
joined_same o level f g (suc n) same =
    let below : joined o level f n ≡ joined o level g n = joined_same o level f g n (λ k h. same k (omega (arith, h))) in
    rw (same n (omega arith), below) refl

pub least_level :
    {L : Type 0} (o : Order L) (r : Routine) (level : ℕ → L) (t : ReachTable) (bits : Bits)
    → TellsReach r t
    → Exact r (Reaches r) bits
    → (p k : ℕ)
    → p ≤ end r
    → k < r.scalars
    → joined o level (has (cell t p k)) (r.scalars + arrays r) ≡ joined o level (λ m. bits m p k) (r.scalars + arrays r)
least_level o r level t bits T E p k hp hk =
    joined_same o level (has (cell t p k)) (λ m. bits m p k) (r.scalars + arrays r)
    (λ m hm.
    same_test (has (cell t p k) m) (bits m p k) (λ h. E.whole m p k hm hp hk ((T m p k).0 (has_true (cell t p k) m h)))
    (λ h. true_has (cell t p k) m ((T m p k).1 (E.derivable m p k hm hp hk h))))

-- What a granted examination has earned: the table fits, and some typing table meets the rules.
module _ {L M : Type 0} (x : Scene L) (r : Examination M) (E : Examined x r) where
  typed : (out : Outcome) → is_granted out ≡ true → RightOutcome (setting x) out → Cleared (setting x)
  typed (Ok u) e t = t
  typed (Err f) e t = absurd (both_ways false refl e)

  pub earned : is_granted r.outcome ≡ true → Fitting x × Cleared (setting x)
  earned h =
      elim (cases_eq (length x.levels) (x.listing.counts.scalars + x.listing.counts.arrays)) [
        | inl fit ↦ (fit, typed r.outcome h (E.right_outcome fit))
        | inr ne ↦ absurd (both_ways false refl (sym (ap is_granted (E.wrong_length ne).0) ∙ h))
      ]
