use Rattle.std.proofs.Common.{◌≡◌, ◌<◌, length, Some, sym, refl, ◌∙◌, arith, rules}
use Rattle.std.proofs.lemmas.Bool.{eq-eqb}
use Rattle.rules.proofs.Reaching.{set_exists}
use Rattle.rules.specs.Routine.{target_of}
use Rattle.reach.proofs.Loaded.{limits_of}
use Rattle.reach.proofs.Flows.{replaced, sets_target}
use Rattle.reach.proofs.passing.outgoing.Goals as goal

below : (c : goal.After-inflow) → c.in-Some.scalar < c.args.routine.now.listing.counts.scalars
below c =
    let t = c.in-Some.scalar in
    let is : target_of c.args.node ≡ Some t = sym c.in-Some.ensures in
    set_exists _ c.args.routine.now.listing.counts.arrays c.args.node c.requires t (sets_target c.args.node t is t ∙ eq-eqb t t refl)

pub bounds-next-scalar : goal.bounds-next-scalar
bounds-next-scalar c = omega (arith, below c, (limits_of c.args.routine.now).scalars)

pub returns-in-Some : goal.returns-in-Some
returns-in-Some c =
    let t = c.in-Some.scalar in
    let is : target_of c.args.node ≡ Some t = sym c.in-Some.ensures in
    let sets_it = sets_target c.args.node t is in
    let h = below c in
    let few = (limits_of c.args.routine.now).scalars in
    let long : t < length c.args.row.now.sets = search rules in
    λ name d.
    replaced c.args.row.now.sets t c.inflow.result c.args.node c.args.routine.now.listing.counts.scalars name long sets_it
    (c.inflow.ensures t (sets_it t ∙ eq-eqb t t refl) name) d
