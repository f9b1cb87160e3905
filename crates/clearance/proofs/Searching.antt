-- The search over the nodes, one after the other.
use Rattle.std.proofs.Common.{◌≡◌, ℕ, ◌+◌, ◌<◌, ◌≤◌, Some, None, Option, MatchOption, IfSome, IsSomeAnd, true, sym, subst, inl, inr, arith}
use denote.Param.Members.{Mut, Called}
use Rattle.std.specs.Option.{option_map}
use Rattle.std.specs.Iterator.Runs.{Run, ItemsCountUp, AllItemsGive, IsFirstToGive, CallKeepsClosure}
use Rattle.std.proofs.lemmas.Bool.{cases_order}
use Rattle.rules.specs.Routine.{node, end}
use Rattle.rules.specs.Clearance.{Setting, Violation, NoViolation, Leak}
use Rattle.clearance.specs.declared.leak.LeakSite.{LeakSite}
use Rattle.clearance.specs.Bounds.{bound_number}
use Rattle.clearance.specs.Stops.{Stop, LowestStop, NodeAnswer, LeakAnswer}

module _ {L : Type 0} (c : Setting L) where
  -- No node below i has a violation.
  abbrev pub ClearTo : ℕ → Type 0
  ClearTo i = (p w b m : ℕ) → p < i → Violation c p w b m → ⊥

  stop_of : {p w b m : ℕ} → Violation c p w b m → Stop c p (node c.labelled.routine p) w b m
  stop_of v = record { scalar = v.scalar; held = v.held; reaches = v.reaches; stopped = v.stopped }

  pub clear_all : (i : ℕ) → end c.labelled.routine ≤ i → ClearTo i → NoViolation c
  clear_all i all below p w b m v = below p w b m (omega (arith, v.at_node, all)) v

  pub leak_here : (i : ℕ) (s : LeakSite) → i < end c.labelled.routine → ClearTo i → LowestStop c i (node c.labelled.routine i) s → Leak c s.node s.operand (bound_number s.bound) s.name
  leak_here i s inside below h =
      subst (λ p. Leak c p s.operand (bound_number s.bound) s.name) (sym h.node)
      (record {
        violation = record { scalar = h.stop.scalar; at_node = inside; held = h.stop.held; reaches = h.stop.reaches; stopped = h.stop.stopped };
        lowest =
            λ p w b m v.
            elim (cases_order p i) [
              | inl e ↦ inr (sym e, h.lowest w b m (stop_of (subst (λ q. Violation c q w b m) e v)))
              | inr (inl l) ↦ absurd (below p w b m l v)
              | inr (inr l) ↦ inl l
            ];
      })

is_item : (o : Option ℕ) (k : ℕ) → option_map (λ y. y) o ≡ Some (0 + k) → o ≡ Some k
is_item o k e = grind arith

-- the nodes of a range were asked one after the other, up to the first that leaks
module _ {L : Type 0} (c : Setting L) {S F : Type 0} {steps : S → Option ℕ → S → Type 0} {g : Mut F (ℕ × Unit {0}) (Option LeakSite)} {f : F} (p : Run steps) (n : ℕ)
    (all : n ≡ end c.labelled.routine) (up : ItemsCountUp p 0 n) (keeps : CallKeepsClosure g f)
    (answers : (k : ℕ) (a : Option LeakSite) → Called g f (k, tt) a f → NodeAnswer c k (node c.labelled.routine k) a) where
  item : (k : ℕ) → k < p.len → p.at k ≡ Some k
  item k l = is_item (p.at k) k (up.3 k l)

  none_below : (i : ℕ) → i ≤ p.len → ((k : ℕ) → k < i → Called g f (k, tt) None f) → ClearTo c i
  none_below i h called q w b m l v = answers q None (called q l) w b m (stop_of c v)

  pub leak_told : (result : Option LeakSite) → MatchOption result ((p.whole ≡ true) × AllItemsGive p g f None) (λ y. (i : ℕ) × (i < p.len) × (p.len ≡ i + 1) × IsFirstToGive p g f (Some y) None i) → LeakAnswer c result
  leak_told None h =
      clear_all c p.len (omega (arith, all, up.1 h.0))
      (none_below p.len (omega arith) (λ k l. subst (λ o. IfSome o (λ x. Called g f (x, tt) None f)) (item k l) (h.1 keeps k)))
  leak_told (Some s) h =
      let first = h.3 keeps in
      leak_here c h.0 s (omega (arith, all, up.0, h.1))
      (none_below h.0 (omega (arith, h.1)) (λ k l. subst (λ o. IsSomeAnd o (λ x. Called g f (x, tt) None f)) (item k (omega (arith, l, h.1))) (first.1 k l)))
      (answers h.0 (Some s) (subst (λ o. IsSomeAnd o (λ x. Called g f (x, tt) (Some s) f)) (item h.0 h.1) first.0))
