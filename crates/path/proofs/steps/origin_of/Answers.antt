use Rattle.std.proofs.Common.{rules, ◌≡◌}
use Rattle.std.specs.Option.{option_map}
use Rattle.std.proofs.lemmas.Iterator.{first_from_Range}
use Rattle.listing.specs.Forms.{routine_of}
use Rattle.rules.specs.Routine.{node}
use Rattle.path.specs.declared.place.Origin.TheVariants.{Start, Read}
use Rattle.path.specs.Ways.{ReadsName, Begins}
use Rattle.path.proofs.Beginning.{origin_told}
use Rattle.path.proofs.steps.origin_of.Goals as goal

pub returns : goal.returns
returns c =
    let l = c.args.routine.now.listing in
    let r = routine_of l in
    let first =
    first_from_Range _ _ _ c.find.result (λ p. ReadsName (node r p) p l.counts.scalars c.args.name c.args.place) (λ p. ReadsName (node r p) p l.counts.scalars c.args.name c.args.place → ⊥) c.find.ensures.ran
    (λ x q k. search rules)
    (λ x q k. (search rules, search rules)) in
    let unstarted : Begins r c.args.name c.args.place Start → ⊥ = search rules in
    let mapped : c.map.result ≡ option_map Read c.find.result = search rules in
    rw mapped (origin_told r c.args.name c.args.place c.counts_of-counts.result.nodes c.find.result c.counts_of-counts.ensures.ends unstarted first)
