-- The level of a scalar at a point in the least table.
use Rattle.std.specs.Prelude.{◌≡◌, ℕ, ◌+◌, ◌<◌, ◌≤◌, List, length, Some, None, Option}
use Rattle.listing.specs.declared.parts.Listing.{Listing}
use Rattle.listing.specs.Forms.{routine_of}
use Rattle.rules.specs.Order.{Order}
use Rattle.rules.specs.Reach.{Reaches, Bits, Exact}
use Rattle.rules.specs.Clearance.{least_table}
use Rattle.clearance.specs.Scenes.{labelled_by}

module _ {L : Type 0} (o : Order L) (l : Listing) (levels : List L) (p k : ℕ) where
  -- The table has one level for each scalar and array, and there are such a point and such a scalar.
  pub record InTable : Type 0 where
    pub fits : length levels ≡ l.counts.scalars + l.counts.arrays
    pub point : p ≤ l.counts.nodes
    pub scalar : k < l.counts.scalars

  -- The level there, by any bits that are the reach relation.
  abbrev pub LeastLevel : L → Type 0
  LeastLevel v = (bit : Bits) → Exact (routine_of l) (Reaches (routine_of l)) bit → v ≡ least_table (labelled_by o l levels) bit p k

  abbrev pub LevelAnswer : Option L → Type 0
  LevelAnswer None = InTable → ⊥
  LevelAnswer (Some v) = InTable × LeastLevel v
