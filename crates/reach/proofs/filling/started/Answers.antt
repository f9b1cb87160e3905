use Rattle.reach.proofs.Starts.{started_work}
use Rattle.reach.proofs.filling.started.Goals as goal

pub returns : goal.returns
returns c = started_work c.args.scalars c.empty_row-empty.result c.start_row.result c.empty_row-empty.ensures c.start_row.ensures
