use Rattle.std.proofs.Common.{◌≡◌, length, arith, rules}
use Rattle.reach.proofs.Joining.{joining_none, joining_more, joining_all}
use Rattle.reach.proofs.merge.merge.Goals as goal

pub loop-k-init : goal.loop-k-init
loop-k-init c = joining_none c.args.into.now c.args.from.now

pub loop-k-preserved : goal.loop-k-preserved
loop-k-preserved c =
    let long : length c.args.into.now ≡ 24 = search rules in
    let v = c.join-grew.new.into in
    joining_more c.args.into.now c.args.from.now c.loop-k.into c.loop-k.grew c.loop-k.k v c.loop-k.invariant (omega (arith, long))
    c.join-grew.ensures.either c.join-grew.result c.join-grew.ensures.same c.join-grew.ensures.grows c.join-grew.ensures.fits

pub returns : goal.returns
returns c =
    let long : length c.args.into.now ≡ 24 = search rules in
    let long' : length c.args.from.now ≡ 24 = search rules in
    joining_all _ _ _ _ _ c.loop-k.invariant (omega (arith, long, long')) (omega (arith, long))
