use Rattle.std.proofs.Common.{◌≡◌}
use Rattle.run.specs.Runs.{terms_in, state_of}
use Rattle.twin.proofs.Along.{Along}
use Rattle.twin.proofs.perform.perform.Given as goal

abbrev pub invariant-loop-i : goal.invariant-loop-i
invariant-loop-i g l =
    (l.run.exam.now ≡ l.initial.run.exam.now) ×
    Along (terms_in g.M.LeakageModel.leakage l.initial.run) l.calls (state_of l.initial.run) l.initial.answers l.initial.lines l.i l.used l.answers l.lines (state_of l.run)
