-- The way by which the start name of a leak reaches the operand.
use Rattle.std.specs.Prelude.{◌≡◌, ℕ, cond, Some, None, Ok, Err, Option, ◌==◌}
use Rattle.path.specs.declared.place.Path.{Path}
use Rattle.path.specs.Ways.{WayAnswer, at_place}
use Rattle.rules.specs.declared.Node.{Node}
use Rattle.rules.specs.declared.Node.TheVariants.{Constant, Move, Operate, Select, Read, Write, If, Else, EndIf, While, EndWhile}
use Rattle.rules.specs.Routine.{Routine, node}
use Rattle.clearance.specs.declared.leak.LeakSite.{LeakSite}
use Rattle.clearance.specs.declared.outcome.ClearFault.TheVariants as fault
use Rattle.clearance.specs.Outcomes.{Outcome}

-- The scalar that is operand w of a node, if that operand can be held to a bound.
abbrev pub operand_of : Node → ℕ → Option ℕ
operand_of (Constant d v) w = None
operand_of (Move d a) w = None
operand_of (Operate d op a b) w = cond (w == 3) (Some a) (cond (w == 4) (Some b) None)
operand_of (Select d c a b) w = None
operand_of (Read d t i) w = cond (w == 3) (Some i) None
operand_of (Write t i v) w = cond (w == 2) (Some i) (cond (w == 3) (Some v) None)
operand_of (If c e) w = cond (w == 1) (Some c) None
operand_of (Else f) w = None
operand_of (EndIf i) w = None
operand_of (While c j) w = cond (w == 1) (Some c) None
operand_of (EndWhile h) w = None

-- A way of the leak's start name to the operand, at the node that leaks.
abbrev pub WayToOperand : Routine → LeakSite → Option ℕ → Option Path → Type 0
WayToOperand r s None x = x ≡ None
WayToOperand r s (Some k) x = WayAnswer r s.name (at_place s.node k) x

-- Where there is no leak there is no way.
abbrev pub LeakWay : Routine → Outcome → Option Path → Type 0
LeakWay r (Ok u) x = x ≡ None
LeakWay r (Err fault.TableLength) x = x ≡ None
LeakWay r (Err (fault.Leak s)) x = WayToOperand r s (operand_of (node r s.node) s.operand) x
