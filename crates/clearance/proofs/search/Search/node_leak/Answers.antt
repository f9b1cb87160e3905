use Rattle.std.proofs.Common.{true, None, sym, refl, ap, ◌∙◌, subst, inl, inr}
use Rattle.std.specs.Option.{option_or}
use Rattle.rules.specs.declared.Node.TheVariants.{If, While, Operate, Read}
use Rattle.clearance.specs.Scenes.{setting}
use Rattle.clearance.specs.Searches.{searched}
use Rattle.clearance.specs.Stops.{NodeAnswer}
use Rattle.clearance.proofs.Holding.{heard_held, if_answer, while_answer, operate_answer, read_answer, no_answer}
use Rattle.clearance.proofs.search.Search.node_leak.Goals as goal

pub returns-in-If : goal.returns-in-If
returns-in-If g c =
    let o = g.L.Level.order in
    let w = g.M.LeakageModel.leakage in
    let s = c.args.self.now in
    let C = setting (searched o w s) in
    let p = c.args.point in
    let x = c.in-If.condition in
    let a = c.heard_leak-in-If.result in
    elim c.in-If.is [
      | inl q ↦
          subst (λ n. NodeAnswer C p n a) (sym q.1 ∙ c.node_at.ensures.is)
          (if_answer C p x q.0 a (heard_held o w s c.requires.prepared p (If x q.0) 1 x true a refl c.heard_leak-in-If.ensures))
      | inr q ↦
          subst (λ n. NodeAnswer C p n a) (sym q.1 ∙ c.node_at.ensures.is)
          (while_answer C p x q.0 a (heard_held o w s c.requires.prepared p (While x q.0) 1 x true a refl c.heard_leak-in-If.ensures))
    ]

pub returns-in-Operate : goal.returns-in-Operate
returns-in-Operate g c =
    let o = g.L.Level.order in
    let w = g.M.LeakageModel.leakage in
    let s = c.args.self.now in
    let C = setting (searched o w s) in
    let x = c.in-Operate.left in
    let y = c.in-Operate.right in
    let n = Operate c.in-Operate.target c.in-Operate.operator x y in
    let a = c.heard_leak-first.result in
    let b = c.heard_leak-second.result in
    let left = c.watches_operand-left_watched.result in
    let right = c.watches_operand-right_watched.result in
    rw c.first_of.ensures
    (subst (λ n. NodeAnswer C c.args.point n (option_or a b)) (sym c.in-Operate.is ∙ c.node_at.ensures.is)
    (operate_answer C c.args.point c.in-Operate.target x y c.in-Operate.operator left right a b c.watches_operand-left_watched.ensures c.watches_operand-right_watched.ensures
    (heard_held o w s c.requires.prepared c.args.point n 3 x left a refl c.heard_leak-first.ensures)
    (heard_held o w s c.requires.prepared c.args.point n 4 y right b refl c.heard_leak-second.ensures)))

pub returns-in-Read : goal.returns-in-Read
returns-in-Read g c =
    let o = g.L.Level.order in
    let w = g.M.LeakageModel.leakage in
    let s = c.args.self.now in
    let C = setting (searched o w s) in
    let t = c.in-Read.array in
    let i = c.in-Read.index in
    let n = Read c.in-Read.target t i in
    let a = c.heard_leak.result in
    let held = c.watches_index-watched.result in
    subst (λ n. NodeAnswer C c.args.point n a) (sym c.in-Read.is ∙ c.node_at.ensures.is)
    (read_answer C c.args.point c.in-Read.target t i held a (c.watches_index-watched.ensures ∙ ap (λ z. (w s.model).watches_index z.start z.length) c.region_at.ensures.is)
    (heard_held o w s c.requires.prepared c.args.point n 3 i held a refl c.heard_leak.ensures))

pub returns-in_default : goal.returns-in_default
returns-in_default g c =
    let C = setting (searched g.L.Level.order g.M.LeakageModel.leakage c.args.self.now) in
    subst (λ n. NodeAnswer C c.args.point n None) c.node_at.ensures.is
    (no_answer C c.args.point c.node_at.result c.in_default.not-Operate c.in_default.not-Read c.in_default.not-Write c.in_default.not-If c.in_default.not-While)
