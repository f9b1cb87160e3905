use Rattle.std.proofs.Common.{◌/◌, [], length, get_or, ap, ◌∙◌, arith}
use Rattle.listing.proofs.Cut.{cut_at}
use Rattle.listing.proofs.source.line_at.Goals as goal

pub returns : goal.returns
returns c =
    let s = c.args.bytes.now in
    let line = c.args.line in
    ap (λ lines. get_or lines line []) c.as_chunks.ensures.front ∙ cut_at (length s / 51) line s [] (omega arith)
