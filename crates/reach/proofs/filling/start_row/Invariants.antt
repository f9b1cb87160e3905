use Rattle.std.proofs.Common.{◌≡◌, ℕ, ◌<◌, ◌↔◌, length}
use Rattle.levels.specs.Names.{Has}
use Rattle.reach.specs.Table.{at}
use Rattle.reach.proofs.filling.start_row.Given as goal

abbrev pub invariant-loop-k : goal.invariant-loop-k
invariant-loop-k l = (length l.row.sets ≡ 24) × ((k name : ℕ) → (Has (at l.row k) name ↔ ((k ≡ name) × (name < l.k))))
