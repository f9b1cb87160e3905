use Rattle.rules.proofs.Proved.{leaks_named}
use Rattle.rules.proofs.theorems.leaks_named.Goals as goal

pub returns : goal.returns
returns g c = leaks_named
