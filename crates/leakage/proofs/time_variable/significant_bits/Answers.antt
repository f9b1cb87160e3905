use Rattle.std.proofs.Common.{refl, arith, rules}
use Rattle.leakage.proofs.Bits.{bits_hold}
use Rattle.leakage.proofs.time_variable.significant_bits.Goals as goal

pub returns : goal.returns
returns c =
    let h = bits_hold c.args.value (search rules) in
    record { same = refl; few = omega arith; above = h.0; least = h.1 }
