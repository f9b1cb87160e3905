use Rattle.rules.proofs.Proved.{least_of_tables}
use Rattle.rules.proofs.theorems.least_table.Goals as goal

pub returns : goal.returns
returns g c = least_of_tables
