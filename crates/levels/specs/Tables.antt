-- Tables of start levels, and the names whose levels flow to a bound.
use Rattle.std.specs.Prelude.{◌≡◌, ℕ, ◌<◌, true, ◌↔◌, List, length, slice_index_or}
use Rattle.rules.specs.Order.{Order}
use Rattle.levels.specs.declared.name_set.NameSet.{NameSet}
use Rattle.levels.specs.Names.{Has}

module _ {L : Type 0} (o : Order L) where
  -- The start level of name k; a name that the table lacks has the least level.
  abbrev pub start_level : List L → ℕ → L
  start_level levels k = slice_index_or levels k o.least

  -- A set has the names below 32 of the table whose levels flow to the bound, and no other.
  abbrev pub FlowTo : List L → L → NameSet → Type 0
  FlowTo levels bound names =
      (k : ℕ) → (Has names k ↔ ((k < 32) × (k < length levels) × (o.flows (start_level levels k) bound ≡ true)))
