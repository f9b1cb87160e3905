-- What the search finds at one operand, at one node and over all nodes.
use Rattle.std.specs.Prelude.{◌≡◌, ℕ, ◌<◌, ◌≤◌, Bool, true, false, ◌⊎◌, Some, None, Option}
use Rattle.levels.specs.declared.name_set.NameSet.{NameSet}
use Rattle.levels.specs.Names.{Has}
use Rattle.rules.specs.declared.Node.{Node}
use Rattle.rules.specs.Reach.{Reaches}
use Rattle.rules.specs.Clearance.{Setting, Held, bound, NoViolation, Leak}
use Rattle.clearance.specs.declared.leak.Bound.{Bound}
use Rattle.clearance.specs.declared.leak.LeakSite.{LeakSite}
use Rattle.clearance.specs.Bounds.{bound_number}

-- One operand held to one bound: `names` reach it, and `flow` are those that flow to the bound.
pub record Named (names flow : NameSet) (held : Bool) (p w : ℕ) (b : Bound) (s : LeakSite) : Type 0 where
  pub node : s.node ≡ p
  pub operand : s.operand ≡ w
  pub bound : s.bound ≡ b
  pub held_to : held ≡ true
  pub reaches : Has names s.name
  pub stopped : Has flow s.name → ⊥
  pub lowest : (m : ℕ) → Has names m → (Has flow m → ⊥) → s.name ≤ m

abbrev pub OperandAnswer : (names flow : NameSet) (held : Bool) (p w : ℕ) (b : Bound) → Option LeakSite → Type 0
OperandAnswer names flow held p w b None = held ≡ true → (m : ℕ) → Has names m → Has flow m
OperandAnswer names flow held p w b (Some s) = Named names flow held p w b s

module _ {L : Type 0} (c : Setting L) (p : ℕ) (n : Node) where
  -- At point p, were the node n there, start name m reaches operand w and does not flow to its bound b.
  pub record Stop (w b m : ℕ) : Type 0 where
    pub scalar : ℕ
    pub held : Held c.model c.labelled.routine n w b scalar
    pub reaches : Reaches c.labelled.routine m p scalar
    pub stopped : c.labelled.order.flows (c.labelled.level m) (bound c n b) ≡ false

  pub record LowestStop (s : LeakSite) : Type 0 where
    pub node : s.node ≡ p
    pub stop : Stop s.operand (bound_number s.bound) s.name
    pub lowest :
        (w b m : ℕ)
        → Stop w b m
        → (s.operand < w) ⊎ ((s.operand ≡ w) × ((bound_number s.bound < b) ⊎ ((bound_number s.bound ≡ b) × (s.name ≤ m))))

  abbrev pub NodeAnswer : Option LeakSite → Type 0
  NodeAnswer None = (w b m : ℕ) → Stop w b m → ⊥
  NodeAnswer (Some s) = LowestStop s

-- No violation, or the leak that is named.
abbrev pub LeakAnswer : {L : Type 0} → Setting L → Option LeakSite → Type 0
LeakAnswer c None = NoViolation c
LeakAnswer c (Some s) = Leak c s.node s.operand (bound_number s.bound) s.name
