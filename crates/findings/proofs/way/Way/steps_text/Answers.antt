use Rattle.std.proofs.Common.{string_bytes, ◌∙◌}
use Rattle.listing.specs.Forms.{routine_of}
use Rattle.texts.proofs.Adding.{onto_is, turned}
use Rattle.findings.proofs.Rows.{way_step}
use Rattle.findings.proofs.way.Way.steps_text.Goals as goal

pub loop-index-preserved : goal.loop-index-preserved
loop-index-preserved c =
    turned (string_bytes c.loop-index.out) _ _ _ (string_bytes c.push_str.new.self) _
    (onto_is _ _ _ _ (c.as_str.ensures.value ∙ c.in_ok-row.ensures) c.in_ok-push_str.ensures.bytes)
    (way_step (routine_of c.args.self.now.routine.now.listing) c.args.self.now.path.now _ c.loop-index.index c.loop-index-test.true)
    c.loop-index.invariant
