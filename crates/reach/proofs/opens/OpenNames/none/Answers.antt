use Rattle.std.proofs.Common.{refl}
use Rattle.reach.proofs.Starts.{empty_cells}
use Rattle.reach.proofs.opens.OpenNames.none.Goals as goal

pub returns : goal.returns
returns c = record { none = empty_cells 129 c.empty-empty.result c.empty-empty.ensures.holds; long = refl }
