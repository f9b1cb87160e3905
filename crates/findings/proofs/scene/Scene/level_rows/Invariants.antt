use Rattle.std.proofs.Common.{◌≡◌, ◌++◌, drop, string_bytes}
use Rattle.findings.specs.Who.{level_rows}
use Rattle.findings.proofs.scene.Scene.level_rows.Given as goal

-- what is shown, with the rows to come, is all
abbrev pub invariant-loop-name : goal.invariant-loop-name
invariant-loop-name g l =
    string_bytes l.out ++ level_rows g.L.NamedLevel.named l.self.routine.now.listing.counts.scalars l.name (drop l.name l.self.levels.now)
    ≡ level_rows g.L.NamedLevel.named l.self.routine.now.listing.counts.scalars 0 l.self.levels.now
