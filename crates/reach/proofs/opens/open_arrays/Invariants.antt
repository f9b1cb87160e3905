use Rattle.std.proofs.Common.{ℕ, ◌<◌, ◌≤◌, ◌↔◌}
use Rattle.levels.specs.Names.{Has}
use Rattle.reach.proofs.opens.open_arrays.Given as goal

abbrev pub invariant-loop-name : goal.invariant-loop-name
invariant-loop-name l = (x : ℕ) → (Has l.opens x ↔ ((l.routine.listing.counts.scalars ≤ x) × (x < l.name) × Has l.heard x))
