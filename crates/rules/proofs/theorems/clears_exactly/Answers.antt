use Rattle.rules.proofs.Proved.{clears_exactly}
use Rattle.rules.proofs.theorems.clears_exactly.Goals as goal

pub returns : goal.returns
returns g c = clears_exactly
