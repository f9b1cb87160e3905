use Rattle.std.proofs.Common.{rules}
use Rattle.reach.proofs.Puts.{put_row}
use Rattle.reach.proofs.work.Work.put.Goals as goal

pub returns : goal.returns
returns c =
    put_row c.args.self.now c.args.point c.args.from.now (record { sets = c.merge-grew.new.into }) c.merge-grew.result
    (record { rows = search rules; flags = search rules }) c.requires c.merge-grew.ensures
