use Rattle.std.proofs.Common.{◌≡◌, ◌+◌, ◌<◌, length, get_or, sym, refl, ap, ◌∙◌, arith}
use Rattle.std.specs.Option.{option_or}
use Rattle.std.proofs.lemmas.List.{get_or_read}
use Rattle.rules.specs.declared.Node.TheVariants.{Write}
use Rattle.clearance.specs.Scenes.{setting}
use Rattle.clearance.specs.Searches.{searched}
use Rattle.clearance.proofs.Holding.{heard_held, stored_held, write_answer}
use Rattle.clearance.proofs.search.Search.write_leak.Goals as goal

pub returns : goal.returns
returns g c =
    let o = g.L.Level.order in
    let w = g.M.LeakageModel.leakage in
    let s = c.args.self.now in
    let listing = s.routine.now.listing in
    let levels = s.levels.now in
    let p = c.args.point in
    let n = Write c.args.array c.args.index c.args.value in
    let x = c.index-self-counts.result in
    let y = get_or levels (c.counts_of-counts.result.scalars + c.args.array) x in
    let place : c.counts_of-counts.result.scalars + c.args.array ≡ listing.counts.scalars + c.args.array =
    ap (λ k. k.scalars + c.args.array) c.counts_of-counts.ensures.is in
    let within : c.counts_of-counts.result.scalars + c.args.array < length levels = omega (arith, place, c.requires.prepared.fits, c.requires.operands.0) in
    let level : get_or levels (listing.counts.scalars + c.args.array) o.least ≡ y =
    sym (get_or_read levels _ x within c.index-self-counts.is o.least ∙ ap (λ i. get_or levels i o.least) place) ∙ c.index-self-counts.is in
    let watched = c.watches_index-watched.ensures ∙ ap (λ a. (w s.model).watches_index a.start a.length) c.region_at.ensures.is in
    let first = c.heard_leak-first.result in
    let second = c.stored_leak-second.result in
    let third = c.stored_leak-third.result in
    rw (c.first_of-2.ensures ∙ ap (option_or first) c.first_of.ensures)
    (write_answer (setting (searched o w s)) p c.args.array c.args.index c.args.value c.watches_index-watched.result first second third watched
    (heard_held o w s c.requires.prepared p n 2 c.args.index c.watches_index-watched.result first refl c.heard_leak-first.ensures)
    (stored_held o w s c.requires.prepared p n 2 c.args.index y c.flowing-stored.result second level c.flowing-stored.ensures c.stored_leak-second.ensures)
    (stored_held o w s c.requires.prepared p n 3 c.args.value y c.flowing-stored.result third level c.flowing-stored.ensures c.stored_leak-third.ensures))
