use Rattle.std.proofs.Common.{◌∙◌, arith}
use Rattle.std.proofs.lemmas.List.{length-set}
use Rattle.reach.proofs.Starts.{start_more}
use Rattle.reach.proofs.filling.start_row.Goals as goal

pub loop-k-preserved : goal.loop-k-preserved
loop-k-preserved c =
    let i = c.loop-k.invariant in (
      length-set c.loop-k.row.sets c.loop-k.k c.single.result ∙ i.0,
      start_more c.loop-k.row c.loop-k.k c.single.result i.0 (omega arith) i.1 c.single.ensures,
    )
