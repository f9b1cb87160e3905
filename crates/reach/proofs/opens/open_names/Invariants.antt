use Rattle.std.proofs.Common.{◌≡◌, ℕ, ◌<◌, ◌↔◌, length}
use Rattle.levels.specs.Names.{Has}
use Rattle.reach.specs.Table.{cell}
use Rattle.reach.specs.Opens.{OpenBy, open_at}
use Rattle.reach.proofs.opens.open_names.Given as goal

abbrev pub invariant-loop-point : goal.invariant-loop-point
invariant-loop-point l =
    (length l.opens.at ≡ 129)
    × ((p x : ℕ)
    → (Has (open_at l.opens p) x ↔ ((p < l.point) × OpenBy l.routine.listing (λ name k. Has (cell l.table p k) name) l.heard x)))
