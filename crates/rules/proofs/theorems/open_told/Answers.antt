use Rattle.rules.proofs.Proved.{open_told}
use Rattle.rules.proofs.theorems.open_told.Goals as goal

pub returns : goal.returns
returns g c = open_told
