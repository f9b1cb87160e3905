use Rattle.std.proofs.Common.{◌+◌, ◌≤◌, inl, inr, rules, arith}
use Rattle.run.proofs.Points.{skips, few_points}
use Rattle.run.proofs.step.Step.next.Goals as goal

pub overflow_add-result : goal.overflow_add-result
overflow_add-result c =
    let h : c.in-If.otherwise + 1 ≤ 128 = omega (arith, few_points c.args.self.now.routine.now, skips _ _ _ _ _ c.node.ensures.next (inl c.in-If.is)) in search rules

pub overflow_add-result-else-memory-condition-eq0 : goal.overflow_add-result-else-memory-condition-eq0
overflow_add-result-else-memory-condition-eq0 c =
    let h : c.args.self.now.point + 1 ≤ 128 = omega (arith, few_points c.args.self.now.routine.now, c.args.self.now.before) in search rules

pub overflow_add-result-then-memory-condition-eq0-2 : goal.overflow_add-result-then-memory-condition-eq0-2
overflow_add-result-then-memory-condition-eq0-2 c =
    let h : c.in-While.end + 1 ≤ 128 = omega (arith, few_points c.args.self.now.routine.now, skips _ _ _ _ _ c.node.ensures.next (inr c.in-While.is)) in search rules

pub overflow_add-result-else-memory-condition-eq0-2 : goal.overflow_add-result-else-memory-condition-eq0-2
overflow_add-result-else-memory-condition-eq0-2 c =
    let h : c.args.self.now.point + 1 ≤ 128 = omega (arith, few_points c.args.self.now.routine.now, c.args.self.now.before) in search rules

pub returns-then-memory-condition-eq0-clause-within : goal.returns-then-memory-condition-eq0-clause-within
returns-then-memory-condition-eq0-clause-within c = skips _ _ _ _ _ c.node.ensures.next (inl c.in-If.is)

pub returns-then-memory-condition-eq0-2-clause-within : goal.returns-then-memory-condition-eq0-2-clause-within
returns-then-memory-condition-eq0-2-clause-within c = skips _ _ _ _ _ c.node.ensures.next (inr c.in-While.is)

pub overflow_add-result-in_default : goal.overflow_add-result-in_default
overflow_add-result-in_default c =
    let h : c.args.self.now.point + 1 ≤ 128 = omega (arith, few_points c.args.self.now.routine.now, c.args.self.now.before) in search rules
