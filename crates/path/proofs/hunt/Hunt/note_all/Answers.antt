use Rattle.listing.specs.Forms.{routine_of}
use Rattle.path.proofs.Extending.{point_noted}
use Rattle.path.proofs.hunt.Hunt.note_all.Goals as goal

pub loop-point-preserved : goal.loop-point-preserved
loop-point-preserved c =
    let l = c.args.routine.now.listing in
    point_noted (routine_of l) c.args.self.now c.args.index c.requires c.loop-point.self c.note_at.new.self c.loop-point.point
    l.counts.scalars c.loop-point.invariant.0 c.loop-point.invariant.1 c.note_at.ensures.extends c.note_at.ensures.met
