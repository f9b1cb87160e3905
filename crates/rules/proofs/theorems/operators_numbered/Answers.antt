use Rattle.rules.proofs.Numbering.{numbered}
use Rattle.rules.proofs.theorems.operators_numbered.Goals as goal

pub returns : goal.returns
returns c = numbered
