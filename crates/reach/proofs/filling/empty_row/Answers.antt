use Rattle.reach.proofs.Starts.{empty_cells}
use Rattle.reach.proofs.filling.empty_row.Goals as goal

pub returns : goal.returns
returns c = empty_cells 24 c.empty-empty.result c.empty-empty.ensures.holds
