use Rattle.std.proofs.Common.{arith}
use Rattle.levels.proofs.Bits.{bit_of_or, bit_small, or_grows, or_cases_bit}
use Rattle.levels.proofs.name_set.NameSet.union.Goals as goal

pub returns : goal.returns
returns c =
    let a = c.args.self.bits in
    let b = c.args.other.bits in
    record { either = λ k. (or_cases_bit a b k, λ h. omega (arith, bit_of_or a b k, bit_small a k, bit_small b k)); grows = or_grows a b }
