use Rattle.rules.proofs.Proved.{clears_upwards}
use Rattle.rules.proofs.theorems.clears_upwards.Goals as goal

pub returns : goal.returns
returns g c = clears_upwards
