use Rattle.std.proofs.Common.{ap, arith}
use Rattle.std.proofs.lemmas.List.{length-map}
use Rattle.listing.proofs.Sounds.{sound_formed}
use Rattle.verdict.specs.declared.slip.Slip.TheVariants.{Refused}
use Rattle.verdict.specs.Digits.{level_of}
use Rattle.verdict.proofs.judging.examined.Goals as goal

pub returns-then-digits-gt32 : goal.returns-then-digits-gt32
returns-then-digits-gt32 c =
    let w = sound_formed c.args.routine.listing c.args.routine.holds in
    record {
      wrong_length = λ _. ap Refused c.at.ensures;
      right_slip = λ fits. absurd (omega (arith, fits, length-map c.args.digits.now level_of, w.formed.few_scalars, w.few_arrays));
    }
