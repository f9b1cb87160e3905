use Rattle.std.proofs.Common.{◌≡◌, ℕ, ◌<◌, true, ◌↔◌}
use Rattle.levels.specs.Names.{Has}
use Rattle.levels.specs.Tables.{start_level}
use Rattle.levels.proofs.table.flowing.Given as goal

-- the names below the next one whose levels flow to the bound
abbrev pub invariant-loop-name : goal.invariant-loop-name
invariant-loop-name g l =
    let o = g.L.Level.order in
    (k : ℕ) → (Has l.names k ↔ ((k < 32) × (k < l.name) × (o.flows (start_level o l.levels k) l.bound ≡ true)))
