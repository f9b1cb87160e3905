use Rattle.std.proofs.Common.{arith}
use Rattle.std.proofs.lemmas.Nat.{one_shl}
use Rattle.levels.proofs.Bits.{bit_pow, bit_pow_same}
use Rattle.levels.proofs.name_set.NameSet.single.Goals as goal

pub returns-then-name-lt32 : goal.returns-then-name-lt32
returns-then-name-lt32 c =
    let below = c.if-name-lt32.true in
    λ k.
    rw (one_shl c.args.name 32 below)
    (λ h. let e = bit_pow c.args.name k h in (omega arith, e), λ h. rw h.1 (bit_pow_same c.args.name))
