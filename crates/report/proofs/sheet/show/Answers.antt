use Rattle.listing.specs.Texts.{listing_text}
use Rattle.report.specs.Records.{record_text}
use Rattle.report.proofs.Back.{identical}
use Rattle.report.proofs.sheet.show.Goals as goal

pub returns-in_ok-loaded_text-in-Ok : goal.returns-in_ok-loaded_text-in-Ok
returns-in_ok-loaded_text-in-Ok c =
    let t = c.in-Ok.routine.listing in
    (t, c.in-Ok.ensures.is, identical _ (record_text t) c.args.bytes.now (listing_text t) c.in-Ok.ensures.means.0 c.in_ok-loaded_text-in-Ok.ensures)
