use Rattle.std.proofs.Common.{◌+◌, sym, refl, ap, ◌∙◌, subst}
use Rattle.listing.specs.declared.parts.Counts.{Counts}
use Rattle.clearance.specs.Scenes.{scene, setting, Fitting}
use Rattle.clearance.specs.Examinations.{RightOutcome}
use Rattle.clearance.proofs.Tellings.{right_outcome, right_opens}
use Rattle.clearance.proofs.examining.examine.Goals as goal

pub returns : goal.returns
returns g c =
    let o = g.L.Level.order in
    let l = g.M.LeakageModel.leakage c.args.model in
    let r = c.args.routine in
    let levels = c.args.levels.now in
    let x = scene o l r.listing levels c.args.listener in
    let fit : Fitting x = c.if-levels-counts.false ∙ ap (λ (k : Counts). k.scalars + k.arrays) c.counts_of-counts.ensures.is in
    record {
      keeps = (refl, refl);
      tells =
          record {
            wrong_length = λ h. absurd (h fit);
            right_outcome =
                λ _.
                subst (RightOutcome (setting x)) (sym c.outcome_of-outcome.ensures)
                (right_outcome o l r levels c.args.listener fit g.met.L.Level.lawful c.reach-table.result c.reach-table.ensures
                c.first_leak.result c.first_leak.ensures);
            right_opens =
                λ _.
                right_opens o l r levels c.args.listener fit c.reach-table.result c.reach-table.ensures c.flowing-heard.result
                c.flowing-heard.ensures c.open_names-opens.result c.open_names-opens.ensures;
          };
    }
