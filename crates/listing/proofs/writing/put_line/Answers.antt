use Rattle.std.proofs.Common.{◌≡◌, ◌+◌, ◌-◌, ap, ◌∙◌, arith}
use borrow.Rule.Slice.PartMut.{put_mid}
use Rattle.lines.specs.Text.{line_text}
use Rattle.lines.proofs.Over.{over_part, length_line}
use Rattle.listing.proofs.writing.put_line.Goals as goal

pub returns : goal.returns
returns c =
    let s = c.args.room.now in
    let at = c.args.at in
    let e : 51 ≡ at + 51 - at = omega arith in
    ap (put_mid at (at + 51 - at) s) (c.copy_from_slice.ensures.after ∙ c.line_text-text.ensures)
    ∙ over_part s (line_text c.args.line) at (at + 51 - at) (length_line c.args.line ∙ e)
