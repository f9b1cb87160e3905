use Rattle.rules.proofs.Standing.{counter_least, line_less, layer_more}
use Rattle.rules.proofs.theorems.models_compared.Goals as goal

pub returns : goal.returns
returns c = record { counter = counter_least; lines = line_less; layered = layer_more }
