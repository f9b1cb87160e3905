-- What the data of a run stand for in the rules.
use Rattle.std.specs.Prelude.{replicate}
use Rattle.rules.specs.Run.{Memory as RulesMemory, Line, Name, Refusal as RulesRefusal, no_array, no_element, no_scalar, shut}
use Rattle.rules.specs.Run.Name.{Scalar, Element}
use Rattle.listing.specs.declared.faults.Refusal.{Refusal}
use Rattle.listing.specs.declared.faults.Rule.{Rule}
use Rattle.listing.specs.declared.faults.Rule.TheVariants as rule
use Rattle.listing.specs.Faults.{refused}
use Rattle.run.specs.declared.memory.Memory.{Memory}
use Rattle.run.specs.declared.memory.LeakLine.{LeakLine}
use Rattle.run.specs.declared.memory.Place.{Place}
use Rattle.run.specs.declared.memory.Place.TheVariants as place
use Rattle.run.specs.declared.faults.RunFault.{RunFault}
use Rattle.run.specs.declared.faults.RunFault.TheVariants.{NoArray, NoElement, NoScalar, Shut}

abbrev pub of_memory : Memory → RulesMemory
of_memory m = record { scalars = m.scalars; cells = m.cells }

-- A memory of zeros.
abbrev pub zeroed : Memory
zeroed = record { scalars = replicate 24 0; cells = replicate 512 0 }

abbrev pub of_line : LeakLine → Line
of_line x = record { at = x.node; mark = x.mark }

-- A leak line of the rules, as it is written.
abbrev pub leak_line : Line → LeakLine
leak_line x = record { node = x.at; mark = x.mark }

abbrev pub of_place : Place → Name
of_place (place.Scalar k) = Scalar k
of_place (place.Element t i) = Element t i

-- The refusals of feed and ask: 12, 13, 14, and of ask alone 15.
abbrev pub of_fault : RunFault → RulesRefusal
of_fault NoArray = no_array
of_fault NoElement = no_element
of_fault NoScalar = no_scalar
of_fault Shut = shut

-- The rule that each breaks.
abbrev pub rule_of : RunFault → Rule
rule_of NoArray = rule.Array
rule_of NoElement = rule.Element
rule_of NoScalar = rule.Scalar
rule_of Shut = rule.Open

-- The rule, line and field of each.
abbrev pub refusal_of : RunFault → Refusal
refusal_of f = refused (rule_of f) (of_fault f).line (of_fault f).field
