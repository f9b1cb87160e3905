use Rattle.std.proofs.Common.{rules}
use Rattle.twin.proofs.Looks.{tried}
use Rattle.twin.proofs.trying.trial.Goals as goal

pub returns : goal.returns
returns g c =
    let exam = c.examine-exam.ensures in
    tried _ g.M.LeakageModel.leakage _ _ _ _ _ _ _ exam.keeps exam.tells _ _ c.in-Ok.ensures (search rules) (search rules)
