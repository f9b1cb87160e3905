-- A reach table that is being filled.
use Rattle.std.specs.Prelude.{◌≡◌, ℕ, ◌<◌, ◌≤◌, Bool, true, false, ◌⊎◌, ◌↔◌, length, sum_by, ◌≢◌, slice_index_or}
use Rattle.levels.specs.Names.{Has}
use Rattle.rules.specs.Routine.{Routine, node, end, Next}
use Rattle.rules.specs.Reach.{Reaches}
use Rattle.reach.specs.declared.table.Row.{Row}
use Rattle.reach.specs.declared.table.ReachTable.{ReachTable}
use Rattle.reach.specs.declared.work.Work.{Work}
use Rattle.reach.specs.Merging.{space}
use Rattle.reach.specs.Passing.{Flow}
use Rattle.reach.specs.Table.{at, row_at, cell}

-- How far a table is from full.
abbrev pub room : ReachTable → ℕ
room t = sum_by (λ row. space row.sets) t.rows

pub record Shaped (w : Work) : Type 0 where
  pub rows : length w.table.rows ≡ 129
  pub flags : length w.pending ≡ 129

abbrev pub pending_at : Work → ℕ → Bool
pending_at w p = slice_index_or w.pending p false

-- A name reaches scalar k behind the node at p, if the table says what reaches which scalar before it.
abbrev pub Passes : Routine → ReachTable → ℕ → ℕ → ℕ → Type 0
Passes r t p name k = Flow r.scalars (node r p) (λ j. Has (cell t p j) name) name k

-- The names of `from` were put into the row of q.
pub record Put (old new : Work) (q : ℕ) (from : Row) (grew : Bool) : Type 0 where
  pub shape : Shaped new
  pub gains : (p k name : ℕ) → (Has (cell new.table p k) name ↔ (Has (cell old.table p k) name ⊎ ((p ≡ q) × Has (at from k) name)))
  pub elsewhere : (p : ℕ) → (p ≢ q) → row_at new.table p ≡ row_at old.table p
  pub marks : (p : ℕ) → pending_at new p ≡ false → (pending_at old p ≡ false) × (p ≡ q → grew ≡ false)
  pub unmarked : (p : ℕ) → (p ≡ q → grew ≡ false) → pending_at old p ≡ false → pending_at new p ≡ false
  pub same : grew ≡ false → new.table ≡ old.table
  pub falls : grew ≡ true → room new.table < room old.table

-- What reaches p was passed on to its next points; the rows of points that are not pending did not change. `back` tells whether p or an
-- earlier point is pending again.
pub record Passed (r : Routine) (old new : Work) (p : ℕ) (back : Bool) : Type 0 where
  pub shape : Shaped new
  pub gains :
      (q k name : ℕ)
      → (Has (cell new.table q k) name ↔ (Has (cell old.table q k) name ⊎ (Next (node r p) p q × Passes r old.table p name k)))
  pub still : (k : ℕ) → pending_at new k ≡ false → row_at new.table k ≡ row_at old.table k
  pub was_still : (k : ℕ) → pending_at new k ≡ false → (k ≢ p) → pending_at old k ≡ false
  pub clean : back ≡ false → (k : ℕ) → k ≤ p → (k ≡ p) ⊎ (pending_at old k ≡ false) → pending_at new k ≡ false
  pub falls : back ≡ true → room new.table < room old.table
  pub less : room new.table ≤ room old.table

-- The node at p passes on nothing that the table lacks.
abbrev pub Settled : Routine → ReachTable → ℕ → Type 0
Settled r t p = (name q k : ℕ) → Next (node r p) p q → Passes r t p name k → Has (cell t q k) name

-- The table holds only names that reach, and the start names; the nodes that are not pending pass on nothing new.
pub record Going (r : Routine) (w : Work) : Type 0 where
  pub shape : Shaped w
  pub sound : (name q k : ℕ) → Has (cell w.table q k) name → Reaches r name q k
  pub starts : (name : ℕ) → name < r.scalars → Has (cell w.table 0 name) name
  pub settled : (k : ℕ) → k < end r → pending_at w k ≡ false → Settled r w.table k

-- The points below i were passed on; `again` tells whether one of them is pending again.
pub record Sweeping (r : Routine) (old new : Work) (i : ℕ) (again : Bool) : Type 0 where
  pub going : Going r new
  pub clean : again ≡ false → (k : ℕ) → k < i → pending_at new k ≡ false
  pub falls : again ≡ true → room new.table < room old.table
  pub less : room new.table ≤ room old.table

abbrev pub Swept : Routine → Work → Work → Bool → Type 0
Swept r old new again = Sweeping r old new (end r) again

-- Before the first step: start name k alone, at scalar k of point 0.
pub record Started (s : ℕ) (w : Work) : Type 0 where
  pub shape : Shaped w
  pub holds : (p k name : ℕ) → (Has (cell w.table p k) name ↔ ((p ≡ 0) × (k ≡ name) × (name < s)))
  pub all_pending : (p : ℕ) → p < 129 → pending_at w p ≡ true
