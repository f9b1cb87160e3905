-- Joins over any labelled routine: into a node, over the start names that a test picks, and in the least table of any relation.
use Rattle.std.proofs.Common.{◌≡◌, ℕ, zero, suc, ◌+◌, ◌<◌, ◌≤◌, Bool, true, ◌⊎◌, sym, refl, ap, ◌∙◌, inl, inr, not-suc-le-zero, arith}
use Rattle.std.proofs.lemmas.Bool.{cases_eq, cond_both, cond-true}
use Rattle.rules.specs.declared.Node.{Node}
use Rattle.rules.specs.declared.Node.TheVariants.{Constant, Move, Operate, Select, Read, Write, If, Else, EndIf, While, EndWhile}
use Rattle.rules.specs.Order.{Flows, Lawful}
use Rattle.rules.specs.Routine.{arrays, end, Reads, ReadsArray}
use Rattle.rules.specs.Reach.{Relation, Bits, Exact}
use Rattle.rules.specs.Clearance.{Labelled, array_level, incoming, joined, least_table}
use Rattle.rules.proofs.Orders.{flows_trans, flows_refl, least_flows, flows_left, flows_right, join_flows}

module _ {L : Type 0} (labelled : Labelled L) (laws : Lawful labelled.order) where
  open labelled use {order, routine, level}

  -- The level of each scalar read flows into the join.
  pub scalar_into : (n : Node) (t : ℕ → L) (a : ℕ) → Reads n a → Flows order (t a) (incoming labelled t n)
  scalar_into (Constant d v) t a h = absurd h
  scalar_into (Move d x) t a h = rw h (flows_refl order laws (t x))
  scalar_into (Operate d op x y) t a (inl h) = rw h (flows_left order laws (t x) (t y))
  scalar_into (Operate d op x y) t a (inr h) = rw h (flows_right order laws (t x) (t y))
  scalar_into (Select d w x y) t a (inl h) = rw h (flows_left order laws (t w) (order.join (t x) (t y)))
  scalar_into (Select d w x y) t a (inr (inl h)) =
      rw h
      (flows_trans order laws (t x) _ _ (flows_left order laws (t x) (t y))
      (flows_right order laws (t w) (order.join (t x) (t y))))
  scalar_into (Select d w x y) t a (inr (inr h)) =
      rw h
      (flows_trans order laws (t y) _ _ (flows_right order laws (t x) (t y))
      (flows_right order laws (t w) (order.join (t x) (t y))))
  scalar_into (Read d u i) t a h = rw h (flows_right order laws (array_level labelled u) (t i))
  scalar_into (Write u i v) t a (inl h) = rw h (flows_left order laws (t i) (t v))
  scalar_into (Write u i v) t a (inr h) = rw h (flows_right order laws (t i) (t v))
  scalar_into (If x e) t a h = rw h (flows_refl order laws (t x))
  scalar_into (Else f) t a h = absurd h
  scalar_into (EndIf i) t a h = absurd h
  scalar_into (While x j) t a h = rw h (flows_refl order laws (t x))
  scalar_into (EndWhile i) t a h = absurd h

  -- So does the level of the array read.
  pub array_into : (n : Node) (t : ℕ → L) (u : ℕ) → ReadsArray n u → Flows order (array_level labelled u) (incoming labelled t n)
  array_into (Constant d v) t u h = absurd h
  array_into (Move d x) t u h = absurd h
  array_into (Operate d op x y) t u h = absurd h
  array_into (Select d w x y) t u h = absurd h
  array_into (Read d a i) t u h = rw h (flows_left order laws (array_level labelled a) (t i))
  array_into (Write a i v) t u h = absurd h
  array_into (If x e) t u h = absurd h
  array_into (Else f) t u h = absurd h
  array_into (EndIf i) t u h = absurd h
  array_into (While x j) t u h = absurd h
  array_into (EndWhile i) t u h = absurd h

  -- And the join flows where all of them do.
  pub incoming_flows :
      (n : Node) (t : ℕ → L) (x : L)
      → ((a : ℕ) → Reads n a → Flows order (t a) x)
      → ((u : ℕ) → ReadsArray n u → Flows order (array_level labelled u) x)
      → Flows order (incoming labelled t n) x
  incoming_flows (Constant d v) t x f g = least_flows order laws x
  incoming_flows (Move d a) t x f g = f a refl
  incoming_flows (Operate d op a b) t x f g = join_flows order laws (t a) (t b) x (f a (inl refl)) (f b (inr refl))
  incoming_flows (Select d w a b) t x f g =
      join_flows order laws (t w) (order.join (t a) (t b)) x (f w (inl refl))
      (join_flows order laws (t a) (t b) x (f a (inr (inl refl))) (f b (inr (inr refl))))
  incoming_flows (Read d u i) t x f g = join_flows order laws (array_level labelled u) (t i) x (g u refl) (f i refl)
  incoming_flows (Write u i v) t x f g = join_flows order laws (t i) (t v) x (f i (inl refl)) (f v (inr refl))
  incoming_flows (If a e) t x f g = f a refl
  incoming_flows (Else e) t x f g = least_flows order laws x
  incoming_flows (EndIf i) t x f g = least_flows order laws x
  incoming_flows (While a j) t x f g = f a refl
  incoming_flows (EndWhile i) t x f g = least_flows order laws x

  -- The join over the names that a test picks is above each of them, and flows where they all do.
  pub joined_above : (picks : ℕ → Bool) (n m : ℕ) → m < n → picks m ≡ true → Flows order (level m) (joined order level picks n)
  joined_above picks zero m h e = absurd (not-suc-le-zero h)
  joined_above picks (suc n) m h e = go (joined_above picks n m) (cases_eq m n)
    where
      go :
          (m < n → picks m ≡ true → Flows order (level m) (joined order level picks n))
          → (m ≡ n) ⊎ (m ≡ n → ⊥)
          → Flows order (level m) (joined order level picks (suc n))
      go ih (inl f) =
          rw (cond-true (picks n) (order.join (joined order level picks n) (level n)) (joined order level picks n) (ap picks (sym f) ∙ e))
          (rw f (flows_right order laws (joined order level picks n) (level n)))
      go ih (inr f) =
          let below : Flows order (level m) (joined order level picks n) = ih (omega arith) e in
          cond_both (picks n) (order.join (joined order level picks n) (level n)) (joined order level picks n) (λ x. Flows order (level m) x)
          (λ q. flows_trans order laws (level m) (joined order level picks n) _ below (flows_left order laws (joined order level picks n) (level n)))
          (λ q. below)

  pub joined_flows :
      (picks : ℕ → Bool) (n : ℕ) (x : L) → ((m : ℕ) → m < n → picks m ≡ true → Flows order (level m) x) → Flows order (joined order level picks n) x
  joined_flows picks zero x f = least_flows order laws x
  joined_flows picks (suc n) x f =
      let ih : Flows order (joined order level picks n) x = joined_flows picks n x (λ m h e. f m (omega arith) e) in
      cond_both (picks n) (order.join (joined order level picks n) (level n)) (joined order level picks n) (λ y. Flows order y x)
      (λ q. join_flows order laws (joined order level picks n) (level n) x ih (f n (omega arith) q))
      (λ q. ih)

  -- By bits that are a relation, the least table lies above what is related, and below all that lies above it.
  module _ (R : Relation) (bit : Bits) (exact : Exact routine R bit) where
    pub least_above :
        (m p k : ℕ) → m < routine.scalars + arrays routine → p ≤ end routine → k < routine.scalars → R m p k → Flows order (level m) (least_table labelled bit p k)
    least_above m p k hm hp hk x = joined_above (λ j. bit j p k) (routine.scalars + arrays routine) m hm (exact.whole m p k hm hp hk x)

    pub least_below :
        (p k : ℕ) (x : L)
        → p ≤ end routine
        → k < routine.scalars
        → ((m : ℕ) → R m p k → Flows order (level m) x)
        → Flows order (least_table labelled bit p k) x
    least_below p k x hp hk f =
        joined_flows (λ j. bit j p k) (routine.scalars + arrays routine) x (λ m hm e. f m (exact.derivable m p k hm hp hk e))
