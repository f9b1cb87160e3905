-- The operands of a node, one after the other, each held to its bound.
use Rattle.std.proofs.Common.{◌≡◌, ℕ, ◌<◌, ◌≤◌, Bool, true, false, ◌⊎◌, List, length, Some, None, Option, sym, refl, ap, ◌∙◌, subst, subst₂, inl, inr, arith}
use Rattle.std.specs.Option.{option_or}
use Rattle.std.proofs.lemmas.Bool.{cases_Bool, both_ways}
use Rattle.levels.specs.declared.name_set.NameSet.{NameSet}
use Rattle.rules.specs.declared.Operator.{Operator}
use Rattle.rules.specs.declared.Side.TheVariants.{Left, Right}
use Rattle.rules.specs.declared.Node.{Node}
use Rattle.rules.specs.declared.Node.TheVariants.{Constant, Move, Operate, Select, Read, Write, If, Else, EndIf, While, EndWhile}
use Rattle.listing.specs.declared.routine.Routine.{Routine as Loaded}
use Rattle.rules.specs.Order.{Order}
use Rattle.rules.specs.Leakage.{Leakage}
use Rattle.rules.specs.Routine.{Routine, region}
use Rattle.rules.specs.Reach.{Reaches}
use Rattle.listing.specs.Forms.{routine_of}
use Rattle.rules.specs.Clearance.{Setting, Held, bound}
use Rattle.rules.specs.Clearance.Held.{if_condition, while_condition, left_operand, right_operand, read_index, write_index, stored_index, stored_value}
use Rattle.rules.proofs.Reaching.{reaching_name}
use Rattle.reach.proofs.Loaded.{formed_of, arrays_of, limits_of}
use Rattle.rules.proofs.Leaks.{if_is, while_is, operate_is, read_is, write_is}
use Rattle.clearance.specs.declared.leak.Bound.{Bound}
use Rattle.clearance.specs.declared.leak.Bound.TheVariants as by
use Rattle.clearance.specs.declared.leak.LeakSite.{LeakSite}
use Rattle.clearance.specs.Bounds.{bound_number}
use Rattle.reach.specs.declared.table.ReachTable.{ReachTable}
use Rattle.reach.specs.Table.{cell, TellsReach}
use Rattle.levels.specs.Tables.{start_level, FlowTo}
use Rattle.clearance.specs.Scenes.{scene, setting, Fitting}
use Rattle.clearance.specs.declared.search.Search.{Search}
use Rattle.clearance.specs.Searches.{searched, Prepared}
use Rattle.clearance.specs.Stops.{OperandAnswer, Stop, NodeAnswer}

module _ {L : Type 0} (c : Setting L) (p : ℕ) (n : Node) where
  -- Scalar k, which is operand w where `held` says so, held to bound b.
  pub record HeldSite (w b k : ℕ) (held : Bool) (s : LeakSite) : Type 0 where
    pub node : s.node ≡ p
    pub operand : s.operand ≡ w
    pub bound_is : bound_number s.bound ≡ b
    pub held_to : held ≡ true
    pub reaches : Reaches c.labelled.routine s.name p k
    pub stopped : c.labelled.order.flows (c.labelled.level s.name) (bound c n b) ≡ false
    pub lowest : (m : ℕ) → Reaches c.labelled.routine m p k → c.labelled.order.flows (c.labelled.level m) (bound c n b) ≡ false → s.name ≤ m

  abbrev pub HeldAnswer : (w b k : ℕ) (held : Bool) → Option LeakSite → Type 0
  HeldAnswer w b k held None = held ≡ true → (m : ℕ) → Reaches c.labelled.routine m p k → c.labelled.order.flows (c.labelled.level m) (bound c n b) ≡ true
  HeldAnswer w b k held (Some s) = HeldSite w b k held s

  -- The answer for some of a node's operands and bounds.
  pub record PartSite (Q : ℕ → ℕ → Type 0) (s : LeakSite) : Type 0 where
    pub node : s.node ≡ p
    pub inside : Q s.operand (bound_number s.bound)
    pub stop : Stop c p n s.operand (bound_number s.bound) s.name
    pub lowest :
        (w b m : ℕ)
        → Q w b
        → Stop c p n w b m
        → (s.operand < w) ⊎ ((s.operand ≡ w) × ((bound_number s.bound < b) ⊎ ((bound_number s.bound ≡ b) × (s.name ≤ m))))

  abbrev pub Part : (ℕ → ℕ → Type 0) → Option LeakSite → Type 0
  Part Q None = (w b m : ℕ) → Q w b → Stop c p n w b m → ⊥
  Part Q (Some s) = PartSite Q s

  abbrev pub Slot : ℕ → ℕ → ℕ → ℕ → Type 0
  Slot w₀ b₀ w b = (w ≡ w₀) × (b ≡ b₀)

  -- The stop at a slot is of the slot's scalar.
  slot_stop :
      (w₀ b₀ k : ℕ) (held : Bool)
      → ((k' : ℕ) → Held c.model c.labelled.routine n w₀ b₀ k' → (k' ≡ k) × (held ≡ true))
      → (w b m : ℕ)
      → Slot w₀ b₀ w b
      → Stop c p n w b m
      → (held ≡ true) × Reaches c.labelled.routine m p k × (c.labelled.order.flows (c.labelled.level m) (bound c n b₀) ≡ false)
  slot_stop w₀ b₀ k held only w b m q s =
      let d : Held c.model c.labelled.routine n w₀ b₀ s.scalar = subst₂ (λ x y. Held c.model c.labelled.routine n x y s.scalar) q.0 q.1 s.held in
      let e = only s.scalar d in
      (e.1, subst (Reaches c.labelled.routine m p) e.0 s.reaches, subst (λ y. c.labelled.order.flows (c.labelled.level m) (bound c n y) ≡ false) q.1 s.stopped)

  pub slot :
      (w b k : ℕ) (held : Bool) (r : Option LeakSite)
      → ((k' : ℕ) → Held c.model c.labelled.routine n w b k' → (k' ≡ k) × (held ≡ true))
      → (held ≡ true → Held c.model c.labelled.routine n w b k)
      → HeldAnswer w b k held r
      → Part (Slot w b) r
  slot w b k held None only make none =
      λ w' b' m q s.
      let x = slot_stop w b k held only w' b' m q s in
      both_ways _ x.2 (none x.0 m x.1)
  slot w b k held (Some s) only make h =
      record {
        node = h.node;
        inside = (h.operand, h.bound_is);
        stop = record {
          scalar = k;
          held = subst₂ (λ x y. Held c.model c.labelled.routine n x y k) (sym h.operand) (sym h.bound_is) (make h.held_to);
          reaches = h.reaches;
          stopped = subst (λ y. c.labelled.order.flows (c.labelled.level s.name) (bound c n y) ≡ false) (sym h.bound_is) h.stopped;
        };
        lowest =
            λ w' b' m q t.
            let x = slot_stop w b k held only w' b' m q t in
            let low : s.name ≤ m = h.lowest m x.1 x.2 in
            inr (h.operand ∙ sym q.0, inr (h.bound_is ∙ sym q.1, low));
      }

  pub then_also :
      (Q Q' : ℕ → ℕ → Type 0) (r r' : Option LeakSite)
      → ((w b w' b' : ℕ) → Q w b → Q' w' b' → (w < w') ⊎ ((w ≡ w') × (b < b')))
      → Part Q r
      → Part Q' r'
      → Part (λ w b. Q w b ⊎ Q' w b) (option_or r r')
  then_also Q Q' None None before x y = λ w b m q s. elim q [ inl a ↦ x w b m a s | inr a ↦ y w b m a s ]
  then_also Q Q' None (Some s) before x y =
      record {
        node = y.node;
        inside = inr y.inside;
        stop = y.stop;
        lowest = λ w b m q t. elim q [ inl a ↦ absurd (x w b m a t) | inr a ↦ y.lowest w b m a t ];
      }
  then_also Q Q' (Some s) r' before x y =
      record {
        node = x.node;
        inside = inl x.inside;
        stop = x.stop;
        lowest =
            λ w b m q t.
            elim q [
              | inl a ↦ x.lowest w b m a t
              | inr a ↦ elim (before s.operand (bound_number s.bound) w b x.inside a) [ inl l ↦ inl l | inr e ↦ inr (e.0, inl e.1) ]
            ];
      }

  pub whole_node :
      (Q : ℕ → ℕ → Type 0) (r : Option LeakSite)
      → ((w b k : ℕ) → Held c.model c.labelled.routine n w b k → Q w b)
      → Part Q r
      → NodeAnswer c p n r
  whole_node Q None covers x = λ w b m s. x w b m (covers w b s.scalar s.held) s
  whole_node Q (Some s) covers x =
      record { node = x.node; stop = x.stop; lowest = λ w b m t. x.lowest w b m (covers w b t.scalar t.held) t }

-- The nodes, kind by kind.
module _ {l : Leakage} {r : Routine} where
  if_only : {x e k : ℕ} → Held l r (If x e) 1 0 k → (k ≡ x) × (◌≡◌ {A = Bool} true true)
  if_only if_condition = (refl, refl)

  while_only : {x e k : ℕ} → Held l r (While x e) 1 0 k → (k ≡ x) × (◌≡◌ {A = Bool} true true)
  while_only while_condition = (refl, refl)

  left_only : {d x y k : ℕ} {op : Operator} → Held l r (Operate d op x y) 3 0 k → (k ≡ x) × (l.watches_operand op Left ≡ true)
  left_only (left_operand e) = (refl, e)

  right_only : {d x y k : ℕ} {op : Operator} → Held l r (Operate d op x y) 4 0 k → (k ≡ y) × (l.watches_operand op Right ≡ true)
  right_only (right_operand e) = (refl, e)

  read_only : {d t i k : ℕ} → Held l r (Read d t i) 3 0 k → (k ≡ i) × (l.watches_index (region r t).start (region r t).length ≡ true)
  read_only (read_index e) = (refl, e)

  heard_only : {t i v k : ℕ} → Held l r (Write t i v) 2 0 k → (k ≡ i) × (l.watches_index (region r t).start (region r t).length ≡ true)
  heard_only (write_index e) = (refl, e)

  index_only : {t i v k : ℕ} → Held l r (Write t i v) 2 1 k → (k ≡ i) × (◌≡◌ {A = Bool} true true)
  index_only stored_index = (refl, refl)

  value_only : {t i v k : ℕ} → Held l r (Write t i v) 3 1 k → (k ≡ v) × (◌≡◌ {A = Bool} true true)
  value_only stored_value = (refl, refl)

module _ {L : Type 0} (c : Setting L) (p : ℕ) where
  pub if_answer : (x e : ℕ) (r : Option LeakSite) → HeldAnswer c p (If x e) 1 0 x true r → NodeAnswer c p (If x e) r
  if_answer x e r h =
      whole_node c p (If x e) (λ w b. (w ≡ 1) × (b ≡ 0)) r (λ w b k d. let q = if_is d in (q.0, q.1))
      (slot c p (If x e) 1 0 x true r (λ k d. if_only d) (λ t. if_condition) h)

  pub while_answer : (x e : ℕ) (r : Option LeakSite) → HeldAnswer c p (While x e) 1 0 x true r → NodeAnswer c p (While x e) r
  while_answer x e r h =
      whole_node c p (While x e) (λ w b. (w ≡ 1) × (b ≡ 0)) r (λ w b k d. let q = while_is d in (q.0, q.1))
      (slot c p (While x e) 1 0 x true r (λ k d. while_only d) (λ t. while_condition) h)

  pub read_answer :
      (d t i : ℕ) (held : Bool) (r : Option LeakSite)
      → held ≡ c.model.watches_index (region c.labelled.routine t).start (region c.labelled.routine t).length
      → HeldAnswer c p (Read d t i) 3 0 i held r
      → NodeAnswer c p (Read d t i) r
  read_answer d t i held r e h =
      whole_node c p (Read d t i) (λ w b. (w ≡ 3) × (b ≡ 0)) r (λ w b k x. let q = read_is x in (q.0, q.1))
      (slot c p (Read d t i) 3 0 i held r (λ k x. let q = read_only x in (q.0, e ∙ q.1)) (λ y. read_index (sym e ∙ y)) h)

  pub operate_answer :
      (d x y : ℕ) (op : Operator) (left right : Bool) (r r' : Option LeakSite)
      → left ≡ c.model.watches_operand op Left
      → right ≡ c.model.watches_operand op Right
      → HeldAnswer c p (Operate d op x y) 3 0 x left r
      → HeldAnswer c p (Operate d op x y) 4 0 y right r'
      → NodeAnswer c p (Operate d op x y) (option_or r r')
  operate_answer d x y op left right r r' e f h h' =
      whole_node c p (Operate d op x y) (λ w b. ((w ≡ 3) × (b ≡ 0)) ⊎ ((w ≡ 4) × (b ≡ 0))) (option_or r r')
      (λ w b k z. elim (operate_is z) [ inl q ↦ inl (q.0, q.1) | inr q ↦ inr (q.0, q.1) ])
      (then_also c p (Operate d op x y) (λ w b. (w ≡ 3) × (b ≡ 0)) (λ w b. (w ≡ 4) × (b ≡ 0)) r r' (λ w b w' b' q q'. inl (omega arith))
      (slot c p (Operate d op x y) 3 0 x left r (λ k z. let q = left_only z in (q.0, e ∙ q.1)) (λ z. left_operand (sym e ∙ z)) h)
      (slot c p (Operate d op x y) 4 0 y right r' (λ k z. let q = right_only z in (q.0, f ∙ q.1)) (λ z. right_operand (sym f ∙ z)) h'))

  pub write_answer :
      (t i v : ℕ) (held : Bool) (r r' r'' : Option LeakSite)
      → held ≡ c.model.watches_index (region c.labelled.routine t).start (region c.labelled.routine t).length
      → HeldAnswer c p (Write t i v) 2 0 i held r
      → HeldAnswer c p (Write t i v) 2 1 i true r'
      → HeldAnswer c p (Write t i v) 3 1 v true r''
      → NodeAnswer c p (Write t i v) (option_or r (option_or r' r''))
  write_answer t i v held r r' r'' e h h' h'' =
      whole_node c p (Write t i v) (λ w b. ((w ≡ 2) × (b ≡ 0)) ⊎ (((w ≡ 2) × (b ≡ 1)) ⊎ ((w ≡ 3) × (b ≡ 1)))) (option_or r (option_or r' r''))
      (λ w b k z. elim (write_is z) [ inl q ↦ inl (q.0, q.1) | inr (inl q) ↦ inr (inl (q.0, q.1)) | inr (inr q) ↦ inr (inr (q.0, q.1)) ])
      (then_also c p (Write t i v) (λ w b. (w ≡ 2) × (b ≡ 0)) (λ w b. ((w ≡ 2) × (b ≡ 1)) ⊎ ((w ≡ 3) × (b ≡ 1))) r (option_or r' r'')
      (λ w b w' b' q q'. elim q' [ inl a ↦ inr (omega arith) | inr a ↦ inl (omega arith) ])
      (slot c p (Write t i v) 2 0 i held r (λ k z. let q = heard_only z in (q.0, e ∙ q.1)) (λ z. write_index (sym e ∙ z)) h)
      (then_also c p (Write t i v) (λ w b. (w ≡ 2) × (b ≡ 1)) (λ w b. (w ≡ 3) × (b ≡ 1)) r' r'' (λ w b w' b' q q'. inl (omega arith))
      (slot c p (Write t i v) 2 1 i true r' (λ k z. index_only z) (λ z. stored_index) h')
      (slot c p (Write t i v) 3 1 v true r'' (λ k z. value_only z) (λ z. stored_value) h'')))

-- From sets of names to the rules.
module _
    {L : Type 0} (o : Order L) (l : Leakage) (x : Loaded) (levels : List L) (listener : L)
    (fit : Fitting (scene o l x.listing levels listener)) (t : ReachTable) (T : TellsReach (routine_of x.listing) t) where
  abbrev C : Setting L
  C = setting (scene o l x.listing levels listener)

  -- a name that reaches is in the table, and a set has room for it
  in_table : {m p k : ℕ} → Reaches (routine_of x.listing) m p k → (m < 32) × (m < length levels)
  in_table h =
      let a = reaching_name (routine_of x.listing) (formed_of x) h in
      let few = limits_of x in
      (omega (arith, a, arrays_of x, few.scalars, few.arrays), omega (arith, a, arrays_of x, fit))

  pub held_of :
      (p w : ℕ) (b : Bound) (k : ℕ) (n : Node) (y : L) (flow : NameSet) (held : Bool) (r : Option LeakSite)
      → bound C n (bound_number b) ≡ y
      → FlowTo o levels y flow
      → OperandAnswer (cell t p k) flow held p w b r
      → HeldAnswer C p n w (bound_number b) k held r
  held_of p w b k n y flow held None e F none =
      λ h m reach. subst (λ z. o.flows (start_level o levels m) z ≡ true) (sym e) ((F m).0 (none h m ((T m p k).1 reach))).2
  held_of p w b k n y flow held (Some s) e F N =
      let reach = (T s.name p k).0 N.reaches in
      record {
        node = N.node;
        operand = N.operand;
        bound_is = ap bound_number N.bound;
        held_to = N.held_to;
        reaches = reach;
        stopped =
            subst (λ z. o.flows (start_level o levels s.name) z ≡ false) (sym e)
            (elim (cases_Bool (o.flows (start_level o levels s.name) y)) [
              | inl f ↦ absurd (N.stopped ((F s.name).1 ((in_table reach).0, (in_table reach).1, f)))
              | inr f ↦ f
            ]);
        lowest =
            λ m h f.
            N.lowest m ((T m p k).1 h)
            (λ g. both_ways (o.flows (start_level o levels m) y) (subst (λ z. o.flows (start_level o levels m) z ≡ false) e f) ((F m).0 g).2);
      }

-- The operands of a search.
module _ {L M : Type 0} (o : Order L) (w : M → Leakage) (s : Search L M) (R : Prepared o w s) (p : ℕ) (n : Node) where
  pub heard_held :
      (v k : ℕ) (held : Bool) (r : Option LeakSite)
      → bound (setting (searched o w s)) n 0 ≡ s.listener
      → OperandAnswer (cell s.table.now p k) s.heard held p v by.Listener r
      → HeldAnswer (setting (searched o w s)) p n v 0 k held r
  heard_held v k held r e a =
      held_of o (w s.model) s.routine.now s.levels.now s.listener R.fits s.table.now R.reach p v by.Listener k n s.listener s.heard held r e R.flow a

  pub stored_held :
      (v k : ℕ) (y : L) (stored : NameSet) (r : Option LeakSite)
      → bound (setting (searched o w s)) n 1 ≡ y
      → FlowTo o s.levels.now y stored
      → OperandAnswer (cell s.table.now p k) stored true p v by.Array r
      → HeldAnswer (setting (searched o w s)) p n v 1 k true r
  stored_held v k y stored r e F a =
      held_of o (w s.model) s.routine.now s.levels.now s.listener R.fits s.table.now R.reach p v by.Array k n y stored true r e F a

-- The nodes that hold no operand to a bound.
pub no_answer :
    {L : Type 0} (c : Setting L) (p : ℕ) (n : Node)
    → ((d : ℕ) (op : Operator) (x y : ℕ) → n ≡ Operate d op x y → ⊥)
    → ((d t i : ℕ) → n ≡ Read d t i → ⊥)
    → ((t i v : ℕ) → n ≡ Write t i v → ⊥)
    → ((x e : ℕ) → n ≡ If x e → ⊥)
    → ((x e : ℕ) → n ≡ While x e → ⊥)
    → NodeAnswer c p n None
no_answer c p (Constant d v) o rd wr i w = λ a b m s. elim s.held [ ]
no_answer c p (Move d x) o rd wr i w = λ a b m s. elim s.held [ ]
no_answer c p (Operate d op x y) o rd wr i w = absurd (o d op x y refl)
no_answer c p (Select d x y z) o rd wr i w = λ a b m s. elim s.held [ ]
no_answer c p (Read d t j) o rd wr i w = absurd (rd d t j refl)
no_answer c p (Write t j v) o rd wr i w = absurd (wr t j v refl)
no_answer c p (If x e) o rd wr i w = absurd (i x e refl)
no_answer c p (Else f) o rd wr i w = λ a b m s. elim s.held [ ]
no_answer c p (EndIf j) o rd wr i w = λ a b m s. elim s.held [ ]
no_answer c p (While x e) o rd wr i w = absurd (w x e refl)
no_answer c p (EndWhile j) o rd wr i w = λ a b m s. elim s.held [ ]
