-- Which names are open at a point: a scalar if only heard names reach it, an array if it is heard.
use Rattle.std.specs.Prelude.{ℕ, ◌+◌, ◌<◌, ◌≤◌, ◌⊎◌, ◌↔◌, slice_index_or}
use Rattle.levels.specs.declared.name_set.NameSet.{NameSet}
use Rattle.levels.specs.Names.{Has, no_names}
use Rattle.listing.specs.declared.parts.Listing.{Listing}
use Rattle.reach.specs.declared.opens.OpenNames.{OpenNames}
use Rattle.reach.specs.declared.table.ReachTable.{ReachTable}
use Rattle.reach.specs.Table.{cell}

-- The names that are open at p; past the last point there are none.
abbrev pub open_at : OpenNames → ℕ → NameSet
open_at o p = slice_index_or o.at p no_names

abbrev pub NoneOpen : OpenNames → Type 0
NoneOpen o = (p x : ℕ) → Has (open_at o p) x → ⊥

-- Name x is open, where X says which start names reach which scalar.
abbrev pub OpenBy : Listing → (ℕ → ℕ → Type 0) → NameSet → ℕ → Type 0
OpenBy l X heard x =
    ((x < l.counts.scalars) × ((name : ℕ) → X name x → Has heard name))
    ⊎ ((l.counts.scalars ≤ x) × (x < l.counts.scalars + l.counts.arrays) × Has heard x)

-- At each point of the listing, the open names are those that a table says are open; there is no other point.
abbrev pub OpensBy : Listing → ReachTable → NameSet → OpenNames → Type 0
OpensBy l t heard o =
    (p x : ℕ) → (Has (open_at o p) x ↔ ((p ≤ l.counts.nodes) × OpenBy l (λ name k. Has (cell t p k) name) heard x))
