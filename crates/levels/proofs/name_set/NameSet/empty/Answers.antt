use Rattle.std.proofs.Common.{arith}
use Rattle.levels.proofs.Bits.{bit_zero}
use Rattle.levels.proofs.name_set.NameSet.empty.Goals as goal

pub returns-clause-holds : goal.returns-clause-holds
returns-clause-holds c = λ k h. omega (arith, bit_zero k)
