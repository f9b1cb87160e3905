use Rattle.rules.proofs.Proved.{clears_under_less}
use Rattle.rules.proofs.theorems.clears_under_less.Goals as goal

pub returns : goal.returns
returns g c = clears_under_less
