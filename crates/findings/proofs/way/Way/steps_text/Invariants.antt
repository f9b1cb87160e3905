use Rattle.std.proofs.Common.{◌≡◌, ◌-◌, ◌++◌, string_bytes}
use Rattle.listing.specs.Forms.{routine_of}
use Rattle.findings.specs.WayTexts.{steps_text}
use Rattle.findings.proofs.way.Way.steps_text.Given as goal

-- what is shown, with the steps to come, is all
abbrev pub invariant-loop-index : goal.invariant-loop-index
invariant-loop-index l =
    string_bytes l.out ++ steps_text (routine_of l.self.routine.now.listing) l.self.path.now l.index (l.steps - l.index)
    ≡ steps_text (routine_of l.self.routine.now.listing) l.self.path.now 0 (l.self.path.now.count - 1)
