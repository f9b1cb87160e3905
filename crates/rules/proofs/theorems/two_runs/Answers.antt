use Rattle.rules.proofs.Proved.{two_runs}
use Rattle.rules.proofs.theorems.two_runs.Goals as goal

pub returns : goal.returns
returns g c = two_runs
