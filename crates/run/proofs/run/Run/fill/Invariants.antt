use Rattle.std.proofs.Common.{◌≡◌}
use Rattle.rules.proofs.Loops.{Written}
use Rattle.run.specs.Views.{of_line}
use Rattle.run.specs.Runs.{terms_in, state_of}
use Rattle.run.proofs.run.Run.fill.Given as goal

abbrev pub invariant-loop-count : goal.invariant-loop-count
invariant-loop-count g l =
    (l.self.exam.now ≡ l.initial.self.exam.now) ×
    Written of_line (terms_in g.M.LeakageModel.leakage l.initial.self).model (terms_in g.M.LeakageModel.leakage l.initial.self).routine
    (state_of l.initial.self) l.initial.lines (state_of l.self) l.lines l.count
