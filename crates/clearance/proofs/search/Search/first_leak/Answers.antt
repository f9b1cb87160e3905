use Rattle.std.proofs.Common.{rules, subst}
use Rattle.std.proofs.iter.runs.Sources.{range_runs}
use Rattle.std.specs.Iterator.Runs.{ItemsCountUp}
use Rattle.clearance.specs.Scenes.{setting}
use Rattle.clearance.specs.Searches.{searched}
use Rattle.clearance.proofs.Searching.{leak_told}
use Rattle.clearance.proofs.search.Search.first_leak.Goals as goal

pub returns : goal.returns
returns g c =
    let s = c.args.self.now in
    let C = setting (searched g.L.Level.order g.M.LeakageModel.leakage s) in
    let run = c.find_map.ensures.runs in
    let n = c.counts_of-counts.result.nodes in
    let up : ItemsCountUp run.0 0 n = subst (λ q. ItemsCountUp run.0 q.start q.end) run.1 (range_runs run.0 run.0.seen) in
    leak_told C run.0 n c.counts_of-counts.ensures.ends up (search rules) (λ k a x. search rules) c.find_map.result run.2
