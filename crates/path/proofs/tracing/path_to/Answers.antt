use Rattle.std.proofs.Common.{◌<◌, ◌≤◌, sym, ap, subst, inl, inr, arith}
use Rattle.listing.specs.declared.parts.Counts.{Counts}
use Rattle.listing.specs.Forms.{routine_of}
use Rattle.reach.proofs.Loaded.{formed_of}
use Rattle.rules.specs.Routine.{end}
use Rattle.rules.proofs.Reaching.{reached_scalar, reached_point}
use Rattle.path.specs.declared.place.Origin.{Origin}
use Rattle.path.specs.Ways.{at_place, Begins}
use Rattle.path.specs.Hunts.{place_at}
use Rattle.path.proofs.Ending.{hunting_more, none_reaches}
use Rattle.path.proofs.Following.{way_found}
use Rattle.path.proofs.tracing.path_to.Goals as goal

pub returns-then-point-counts : goal.returns-then-point-counts
returns-then-point-counts c x =
    let loaded = c.args.routine.now in
    let r = routine_of loaded.listing in
    let point : c.args.point ≤ end r = reached_point r (formed_of loaded) x in
    let scalar : c.args.scalar < loaded.listing.counts.scalars = reached_scalar r (formed_of loaded) x in
    let same = ap (λ (k : Counts). k.scalars) c.counts_of-counts.ensures.is in
    elim c.then-point-counts.either [
      | inl h ↦ omega (arith, h, c.counts_of-counts.ensures.ends)
      | inr h ↦ omega (arith, h.1, same)
    ]

pub returns-in-Some : goal.returns-in-Some
returns-in-Some c =
    let r = routine_of c.args.routine.now.listing in
    let h = c.loop-index.hunt in
    let i = c.loop-index.index in
    way_found r c.args.name (at_place c.args.point c.args.scalar) h i c.follow.result c.loop-index.invariant c.loop-index-test.true
    (subst (λ (o : Origin). Begins r c.args.name (place_at h i) o) (sym c.follow.ensures.origin) c.in-Some.ensures) c.follow.ensures.places

pub loop-index-preserved : goal.loop-index-preserved
loop-index-preserved c =
    let r = routine_of c.args.routine.now.listing in
    hunting_more r c.args.name (at_place c.args.point c.args.scalar) c.loop-index.hunt c.note_all.new.self c.loop-index.index
    c.loop-index.invariant c.loop-index-test.true c.in_default.ensures c.note_all.ensures.extends c.note_all.ensures.met

pub returns : goal.returns
returns c =
    let x = c.args.routine.now in
    none_reaches (routine_of x.listing) (formed_of x) (at_place c.args.point c.args.scalar) c.loop-index.hunt c.loop-index.index
    c.loop-index-test.false c.loop-index.invariant
