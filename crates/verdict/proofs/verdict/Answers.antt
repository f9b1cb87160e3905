use Rattle.std.proofs.Common.{refl, ap, ◌∙◌, arith}
use borrow.Rule.Slice.PartMut.{put_mid}
use Rattle.lines.proofs.Over.{over_part}
use Rattle.verdict.specs.Slips.{slip_text}
use Rattle.verdict.proofs.Pieces.{length_slip}
use Rattle.verdict.proofs.verdict.Goals as goal

pub returns : goal.returns
returns c =
    let x = c.judge.result in
    let room = c.args.out.now in
    record {
      no_room = λ h. absurd (omega (arith, h));
      written =
          λ _.
          (refl, (x, c.judge.ensures, ap (put_mid 0 53 room) (c.copy_from_slice.ensures.after ∙ c.slip_text-text.ensures) ∙ over_part room (slip_text x) 0 53 (length_slip x)));
    }
