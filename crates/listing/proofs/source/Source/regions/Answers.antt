use Rattle.std.proofs.Common.{sym, ◌∙◌, arith}
use Rattle.std.proofs.lemmas.Grind.{common_steps}
use Rattle.std.proofs.lemmas.Result.{err_from_is_err_and}
use Rattle.listing.proofs.Steps.{regions_ok, regions_err}
use Rattle.listing.proofs.source.Source.regions.Goals as goal

pub returns-in_err-region : goal.returns-in_err-region
returns-in_err-region c =
    let p = err_from_is_err_and c.from_residual.result c.from_residual.ensures.1 in
    rw (p.1, p.2)
    (sym (c.loop-number.invariant.1 ∙ regions_err c.args.self.now.bytes.now c.args.self.now.counts.arrays c.loop-number.number c.loop-number.end c.loop-number.regions (omega arith) c.in_err-region.field-0.0 c.in_err-region.ensures.is))

pub loop-number-preserved : goal.loop-number-preserved
loop-number-preserved c = grind (arith, common_steps, regions_ok)
