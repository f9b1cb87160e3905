use Rattle.std.proofs.Common.{arith}
use Rattle.values.proofs.Firsts.{given_or_zero}
use Rattle.values.proofs.draft.put_all.Goals as goal

pub returns : goal.returns
returns c = given_or_zero c.args.places.now c.loop-place.row (omega arith) (λ k h. c.loop-place.invariant k (omega arith))
