use Rattle.rules.proofs.Proved.{partial_order, least_upper_bound}
use Rattle.rules.proofs.theorems.flows_in_order.Goals as goal

pub returns : goal.returns
returns g c = record { partial = partial_order; join = least_upper_bound }
