-- The limits of a listing.
use Rattle.std.specs.Prelude.{◌≤◌}
use Rattle.listing.specs.declared.parts.Counts.{Counts}

-- At most 24 scalars, 8 arrays and 128 nodes.
pub record WithinLimits (counts : Counts) : Type 0 where
  pub scalars : counts.scalars ≤ 24
  pub arrays : counts.arrays ≤ 8
  pub nodes : counts.nodes ≤ 128
