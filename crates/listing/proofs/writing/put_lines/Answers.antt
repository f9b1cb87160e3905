use Rattle.std.proofs.Common.{ap, ◌∙◌, arith}
use Rattle.listing.proofs.Numbered.{over_none, numbered_step, numbered_all}
use Rattle.listing.proofs.writing.put_lines.Goals as goal

pub loop-number-init : goal.loop-number-init
loop-number-init g c = over_none c.args.room.now c.args.at

pub loop-number-preserved : goal.loop-number-preserved
loop-number-preserved g c =
    let i = c.loop-number.number in
    let x = c.index-items-number.result in
    numbered_step g.T.Lined.line c.args.items.now i x c.line.result c.args.room.now c.loop-number.room c.put_line.new.room c.args.at
    (omega arith) (c.line.ensures ∙ ap (g.T.Lined.line i) c.index-items-number.is) (omega arith) c.loop-number.invariant c.put_line.ensures

pub returns : goal.returns
returns g c = numbered_all g.T.Lined.line c.args.items.now c.loop-number.number c.args.room.now c.loop-number.room c.args.at (omega arith) c.loop-number.invariant
