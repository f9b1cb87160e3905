use Rattle.std.proofs.Common.{◌≡◌, ℕ, ◌≤◌, ◌⊎◌, ◌↔◌, refl, subst, inl, inr, arith, rules}
use Rattle.levels.specs.Names.{Has}
use Rattle.rules.specs.Routine.{Next, node}
use Rattle.listing.specs.Forms.{routine_of}
use Rattle.reach.specs.Passing.{Flow}
use Rattle.reach.specs.Table.{at, cell}
use Rattle.reach.proofs.Loaded.{limits_of}
use Rattle.reach.proofs.Steps.{passed}
use Rattle.reach.proofs.work.Work.pass_on.Goals as goal

pub next_points-next-requires : goal.next_points-next-requires
next_points-next-requires c = omega (arith, c.requires, (limits_of c.args.routine.now).nodes)

pub offset_bounds-self-point : goal.offset_bounds-self-point
offset_bounds-self-point c = omega (arith, c.requires, (limits_of c.args.routine.now).nodes)

pub bounds-self-point : goal.bounds-self-point
bounds-self-point c = omega (arith, c.requires, (limits_of c.args.routine.now).nodes)

pub bounds-self-point-2 : goal.bounds-self-point-2
bounds-self-point-2 c = omega (arith, c.requires, (limits_of c.args.routine.now).nodes)

pub put-first-requires : goal.put-first-requires
put-first-requires c =
    let x = c.args.routine.now in
    let q = c.next_points-next.result.first in
    let low : q ≤ x.listing.counts.nodes = c.node_at-node.ensures.next c.requires q ((c.next_points-next.ensures q).1 (inl refl)) in
    omega (arith, low, (limits_of x).nodes)

pub put-second-requires : goal.put-second-requires
put-second-requires c =
    let x = c.args.routine.now in
    let q = c.next_points-next.result.second in
    let low : q ≤ x.listing.counts.nodes = c.node_at-node.ensures.next c.requires q ((c.next_points-next.ensures q).1 (inr refl)) in
    omega (arith, low, (limits_of x).nodes)

pub returns : goal.returns
returns c =
    let x = c.args.routine.now in
    let r = routine_of x.listing in
    let p = c.args.point in
    let old = c.args.self.now in
    let q₁ = c.next_points-next.result.first in
    let q₂ = c.next_points-next.result.second in
    let out = c.outgoing-out.result in
    let next : (q : ℕ) → (Next (node r p) p q ↔ ((q ≡ q₁) ⊎ (q ≡ q₂))) =
    subst (λ n. (q : ℕ) → (Next n p q ↔ ((q ≡ q₁) ⊎ (q ≡ q₂)))) c.node_at-node.ensures.is c.next_points-next.ensures in
    let flow : (name d : ℕ) → (Has (at out d) name ↔ Flow x.listing.counts.scalars (node r p) (λ k. Has (cell old.table p k) name) name d) =
    subst (λ n. (name d : ℕ) → (Has (at out d) name ↔ Flow x.listing.counts.scalars n (λ k. Has (cell old.table p k) name) name d))
    c.node_at-node.ensures.is c.outgoing-out.ensures in
    let b₁ = c.is_back.ensures in
    let b₂ = c.is_back-2.ensures in
    passed r p old c.put-first.new.self c.put-second.new.self q₁ q₂ out c.put-first.result c.put-second.result
    c.is_back.result c.is_back-2.result next flow c.put-first.ensures c.put-second.ensures (record { rows = search rules; flags = search rules })
    (omega (arith, c.requires, (limits_of x).nodes)) (record { back = b₁.back; ahead = b₁.ahead }) (record { back = b₂.back; ahead = b₂.ahead })
