use Rattle.path.proofs.Following.{following_more}
use Rattle.path.proofs.tracing.follow.Goals as goal

pub loop-at-preserved : goal.loop-at-preserved
loop-at-preserved c =
    following_more c.args.hunt.now c.args.index c.loop-at.places c.loop-at.count c.loop-at.at c.requires.0 c.requires.1
    c.loop-at.invariant c.loop-at-test.true
