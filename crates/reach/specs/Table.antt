-- The reach table: the start names that reach each scalar at each point.
use Rattle.std.specs.Prelude.{ℕ, ◌↔◌, [], slice_index_or}
use Rattle.levels.specs.Names.{Has, no_names}
use Rattle.levels.specs.declared.name_set.NameSet.{NameSet}
use Rattle.rules.specs.Routine.{Routine}
use Rattle.rules.specs.Reach.{Reaches}
use Rattle.reach.specs.declared.table.Row.{Row}
use Rattle.reach.specs.declared.table.ReachTable.{ReachTable}

-- The names of scalar k in a row; past the last scalar there are none.
abbrev pub at : Row → ℕ → NameSet
at row k = slice_index_or row.sets k no_names

-- The row of a point; past the last point it is empty.
abbrev pub row_at : ReachTable → ℕ → Row
row_at t p = slice_index_or t.rows p (record { sets = [] })

-- The names that reach scalar k at point p.
abbrev pub cell : ReachTable → ℕ → ℕ → NameSet
cell t p k = at (row_at t p) k

-- A table holds exactly the names that reach.
abbrev pub TellsReach : Routine → ReachTable → Type 0
TellsReach r t = (name p k : ℕ) → (Has (cell t p k) name ↔ Reaches r name p k)
