use Rattle.std.proofs.Common.{ℕ, ◌+◌, ◌<◌, sym, ap, subst, arith}
use Rattle.std.proofs.lemmas.Bool.{both_ways}
use Rattle.listing.specs.declared.parts.Counts.{Counts}
use Rattle.listing.specs.Forms.{routine_of}
use Rattle.rules.specs.Routine.{node, end, Next}
use Rattle.path.specs.declared.hunt.Hunt.{Hunt}
use Rattle.path.specs.Ways.{Carries}
use Rattle.path.specs.Hunts.{place_at, Extends, MetAt}
use Rattle.path.proofs.Extending.{extends_none, note_taken, note_passed}
use Rattle.path.proofs.hunt.Hunt.note_at.Goals as goal
use Rattle.path.proofs.hunt.Hunt.note_at.Goals.{then-carries, else-carries}

pub note-requires : goal.note-requires
note-requires c =
    let same = ap (λ (k : Counts). k.nodes) c.counts_of-counts.ensures.is in
    let few = c.counts_of-counts.ensures.within in
    (omega (arith, c.requires.1, same, few.nodes), omega (arith, c.loop-scalar-test.true, few.scalars))

pub loop-scalar-init : goal.loop-scalar-init
loop-scalar-init c =
    (extends_none (routine_of c.args.routine.now.listing) c.args.self.now c.args.index, λ k l. absurd (omega arith))

pub loop-scalar-preserved : goal.loop-scalar-preserved
loop-scalar-preserved c =
    let l = c.args.routine.now.listing in
    let r = routine_of l in
    let old = c.args.self.now in
    let mid = c.loop-scalar.self in
    let i = c.args.index in
    let p = c.args.point in
    let k = c.loop-scalar.scalar in
    let to = place_at old i in
    let same = c.counts_of-counts.ensures.is in
    let inside : k < l.counts.scalars = omega (arith, ap (λ (x : Counts). x.scalars) same, c.loop-scalar-test.true) in
    let within : p < end r = omega (arith, c.requires.1, ap (λ (x : Counts). x.nodes) same, c.counts_of-counts.ensures.ends) in
    let is = c.node_at-node.ensures.is in
    let goes : Next (node r p) p to.point = subst (λ n. Next n p to.point) is (c.leads_to.ensures.0 c.if-leads_to.true) in
    elim c.if-carries.branch [
      | then-carries w ↦
          subst (λ (h : Hunt). Extends r old h i × ((j : ℕ) → j < k + 1 → MetAt r h to p j)) (sym w.self-is)
          (note_taken r old i c.requires.0 mid p k c.loop-scalar.invariant.0 c.loop-scalar.invariant.1 w.note.new.self w.note.ensures
          (record { at_node = within; goes = goes; carries = subst (λ n. Carries n k to.scalar) is (c.carries.ensures.0 w.if-carries.true) })
          inside)
      | else-carries w ↦
          subst (λ (h : Hunt). Extends r old h i × ((j : ℕ) → j < k + 1 → MetAt r h to p j)) (sym w.self-is)
          (note_passed r old i c.requires.0 mid p k c.loop-scalar.invariant.0 c.loop-scalar.invariant.1
          (λ moves.
          both_ways c.carries.result w.if-carries.false
          (c.carries.ensures.1 (subst (λ n. Carries n k to.scalar) (sym is) moves.carries))))
    ]
