use Rattle.std.proofs.Common.{◌+◌, set, Ok, sym, ap, ◌∙◌, arith}
use Rattle.std.proofs.lemmas.Result.{err_from_is_err_and}
use Rattle.lines.specs.Lines.{bind}
use Rattle.listing.specs.Nodes.{node_line}
use Rattle.listing.specs.Blocks.{scan_from}
use Rattle.listing.specs.Stops.{closing, node_on}
use Rattle.listing.proofs.Scan.{scan_ok, scan_err, plain}
use Rattle.listing.proofs.blocks.+read_block_read_if_read_while.Goals as goal

pub read_block-returns-in_err-node : goal.read_block-returns-in_err-node
read_block-returns-in_err-node t c =
    let p = err_from_is_err_and c.from_residual.result c.from_residual.ensures.1 in
    rw (p.1, p.2)
    (record {
      within = tt;
      reads = λ st h. c.loop-at.invariant.2 st h
          ∙ scan_err c.args.source.now.bytes.now c.args.source.now.counts c.loop-at.at st c.loop-at.nodes (omega arith) c.in_err-node.field-0.0 c.in_err-node.ensures;
    })

pub read_block-returns-in-Some : goal.read_block-returns-in-Some
read_block-returns-in-Some t c =
    let x = c.in-Some.closer in
    let e = c.in-Some.ensures {u = tt} in
    record {
      within = (omega arith, omega arith);
      reads = λ st h. c.loop-at.invariant.2 st h
          ∙ scan_ok c.args.source.now.bytes.now c.args.source.now.counts c.loop-at.at st c.loop-at.nodes (omega arith) (closing x.part x.named) (ap Ok (sym e.1) ∙ c.in_ok-node.ensures)
          ∙ ap (λ p. node_on c.args.source.now.bytes.now c.args.source.now.counts p (closing x.part x.named) st c.loop-at.nodes) (sym e.0);
    }

pub read_block-returns-in_err-at-in-If : goal.read_block-returns-in_err-at-in-If
read_block-returns-in_err-at-in-If t c =
    let p = err_from_is_err_and c.from_residual-in_err-at-in-If.result c.from_residual-in_err-at-in-If.ensures.1 in
    rw (p.1, p.2)
    (record {
      within = tt;
      reads = λ st h. c.loop-at.invariant.2 st h
          ∙ scan_ok c.args.source.now.bytes.now c.args.source.now.counts c.loop-at.at st c.loop-at.nodes (omega arith) _ (ap Ok (sym c.in-If.is) ∙ c.in_ok-node.ensures)
          ∙ c.in_err-at-in-If.ensures.reads st h;
    })

pub read_block-loop-at-preserved-in-If : goal.read_block-loop-at-preserved-in-If
read_block-loop-at-preserved-in-If t c =
    let w = c.in_ok-at-in-If.ensures.within in (
      omega arith,
      omega arith,
      λ st h. c.loop-at.invariant.2 st h
          ∙ scan_ok c.args.source.now.bytes.now c.args.source.now.counts c.loop-at.at st c.loop-at.nodes (omega arith) _ (ap Ok (sym c.in-If.is) ∙ c.in_ok-node.ensures)
          ∙ c.in_ok-at-in-If.ensures.reads st h,
    )

pub read_block-returns-in_err-at-in-While : goal.read_block-returns-in_err-at-in-While
read_block-returns-in_err-at-in-While t c =
    let p = err_from_is_err_and c.from_residual-in_err-at-in-While.result c.from_residual-in_err-at-in-While.ensures.1 in
    rw (p.1, p.2)
    (record {
      within = tt;
      reads = λ st h. c.loop-at.invariant.2 st h
          ∙ scan_ok c.args.source.now.bytes.now c.args.source.now.counts c.loop-at.at st c.loop-at.nodes (omega arith) _ (ap Ok (sym c.in-While.is) ∙ c.in_ok-node.ensures)
          ∙ c.in_err-at-in-While.ensures.reads st h;
    })

pub read_block-loop-at-preserved-in-While : goal.read_block-loop-at-preserved-in-While
read_block-loop-at-preserved-in-While t c =
    let w = c.in_ok-at-in-While.ensures.within in (
      omega arith,
      omega arith,
      λ st h. c.loop-at.invariant.2 st h
          ∙ scan_ok c.args.source.now.bytes.now c.args.source.now.counts c.loop-at.at st c.loop-at.nodes (omega arith) _ (ap Ok (sym c.in-While.is) ∙ c.in_ok-node.ensures)
          ∙ c.in_ok-at-in-While.ensures.reads st h,
    )

pub read_block-loop-at-preserved : goal.read_block-loop-at-preserved
read_block-loop-at-preserved t c =
    let x = c.in_ok-node.node in
    let at = c.loop-at.at in (
      omega arith,
      omega arith,
      λ st h. c.loop-at.invariant.2 st h
          ∙ scan_ok c.args.source.now.bytes.now c.args.source.now.counts at st c.loop-at.nodes (omega arith) x c.in_ok-node.ensures
          ∙ ap (λ r. bind r (λ st'. scan_from c.args.source.now.bytes.now c.args.source.now.counts (at + 1) st' (set c.loop-at.nodes at x)))
          (plain (node_line c.args.source.now.counts at) at x st (c.in_default.ensures {u = tt}) c.in_default-node.not-If c.in_default-node.not-While),
    )
