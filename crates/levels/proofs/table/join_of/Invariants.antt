use Rattle.std.proofs.Common.{◌≡◌}
use Rattle.rules.specs.Clearance.{joined}
use Rattle.levels.specs.Names.{has}
use Rattle.levels.specs.Tables.{start_level}
use Rattle.levels.proofs.table.join_of.Given as goal

abbrev pub invariant-loop-name : goal.invariant-loop-name
invariant-loop-name g l = l.all ≡ joined g.L.Level.order (start_level g.L.Level.order l.levels) (has l.names) l.name
