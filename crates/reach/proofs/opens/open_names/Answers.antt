use Rattle.std.proofs.Common.{◌≡◌, ℕ, ◌+◌, ◌<◌, ◌↔◌, [], length, take, get_or, ◌∙◌, subst, arith, rules}
use Rattle.std.proofs.lemmas.List.{get_or-take, length-set, length-take-le}
use Rattle.levels.specs.Names.{Has}
use Rattle.reach.specs.declared.table.Row.{Row}
use Rattle.reach.specs.Table.{at, cell}
use Rattle.reach.specs.Opens.{OpenBy}
use Rattle.reach.proofs.Fills.{either_told, told_more}
use Rattle.reach.proofs.opens.open_names.Goals as goal

pub loop-point-preserved : goal.loop-point-preserved
loop-point-preserved c =
    let i = c.loop-point.invariant in
    let xs = c.loop-point.opens.at in
    let here = c.loop-point.point in
    let v = c.union.result in
    let l = c.args.routine.now.listing in
    let rows = c.args.table.now.rows in
    let n = c.counts_of-counts.result.nodes + 1 in
    let long : length rows ≡ 129 = search rules in
    let few = c.counts_of-counts.ensures.within.nodes in
    let within : here < n = omega (arith, length-take-le n rows (omega (arith, long, few)), c.loop-point-test.true) in
    let row = get_or rows here (record { sets = [] }) in
    let kept : get_or (take n rows) here (record { sets = [] }) ≡ row = get_or-take n rows here (record { sets = [] }) within in
    let scalars =
    subst
    (λ (r : Row). (x : ℕ) → (Has c.open_scalars.result x ↔ ((x < l.counts.scalars) × ((name : ℕ) → Has (at r x) name → Has c.args.heard name))))
    kept c.open_scalars.ensures in
    let told : (x : ℕ) → (Has v x ↔ OpenBy l (λ name k. Has (at row k) name) c.args.heard x) =
    λ x. either_told (c.union.ensures.either x) (scalars x) (c.open_arrays-arrays.ensures x) in (
      length-set xs here v ∙ i.0,
      told_more (λ p x. OpenBy l (λ name k. Has (cell c.args.table.now p k) name) c.args.heard x) xs here v (omega (arith, i.0, within, few)) i.1 told,
    )
