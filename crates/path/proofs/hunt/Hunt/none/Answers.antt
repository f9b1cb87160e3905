use Rattle.std.proofs.Common.{refl}
use Rattle.path.proofs.Notes.{none_trailed}
use Rattle.path.proofs.hunt.Hunt.none.Goals as goal

pub returns : goal.returns
returns c = none_trailed _ 3096 refl refl refl refl
