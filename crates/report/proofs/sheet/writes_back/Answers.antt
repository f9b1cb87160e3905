use Rattle.std.proofs.Common.{arith}
use Rattle.listing.specs.Texts.{listing_text}
use Rattle.listing.proofs.Sounds.{sound_formed}
use Rattle.report.proofs.Back.{tested, front_text}
use Rattle.report.proofs.sheet.writes_back.Goals as goal

pub returns : goal.returns
returns c =
    let t = c.args.routine.now.listing in
    tested c.eq.result _ c.args.bytes.now (listing_text t) (front_text c.in-Ok.length _ t c.in-Ok.ensures.keeps.0)
    c.eq.ensures

pub returns-in_default : goal.returns-in_default
returns-in_default c =
    let w = sound_formed c.args.routine.now.listing c.args.routine.now.holds in
    absurd (omega (arith, c.in_default.ensures.is.0, w.few_arrays, w.few_nodes))
