use Rattle.std.proofs.Common.{ℕ, ◌<◌, ◌↔◌}
use Rattle.levels.specs.Names.{Has}
use Rattle.reach.specs.Table.{at}
use Rattle.reach.proofs.opens.open_scalars.Given as goal

abbrev pub invariant-loop-scalar : goal.invariant-loop-scalar
invariant-loop-scalar l = (x : ℕ) → (Has l.opens x ↔ ((x < l.scalar) × ((name : ℕ) → Has (at l.row x) name → Has l.heard name)))
