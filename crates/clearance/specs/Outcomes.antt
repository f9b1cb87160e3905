-- What an examination comes to, and the rule that each fault breaks.
use Rattle.std.specs.Prelude.{Bool, true, false, Some, None, Ok, Err, Option, Result}
use Rattle.listing.specs.declared.faults.Refusal.{Refusal}
use Rattle.listing.specs.declared.faults.Rule.TheVariants as rule
use Rattle.listing.specs.Faults.{refused}
use Rattle.clearance.specs.declared.leak.LeakSite.{LeakSite}
use Rattle.clearance.specs.declared.outcome.ClearFault.{ClearFault}
use Rattle.clearance.specs.declared.outcome.ClearFault.TheVariants as fault

-- What came of an examination: granted, or the fault for which there is no clearance.
abbrev pub Outcome : Type 0
Outcome = Result (Unit {0}) ClearFault

abbrev pub is_granted : Outcome → Bool
is_granted (Ok u) = true
is_granted (Err f) = false

-- The outcome of a search: the leak that it found, or granted.
abbrev pub by_leak : Option LeakSite → Outcome
by_leak (Some s) = Err (fault.Leak s)
by_leak None = Ok tt

-- The fault that an outcome is.
abbrev pub fault_of : Outcome → Option ClearFault
fault_of (Ok u) = None
fault_of (Err f) = Some f

-- The table has not one level for each scalar and each array; or no typing table meets the rules.
abbrev pub refusal_of : ClearFault → Refusal
refusal_of fault.TableLength = refused rule.TableLength 0 0
refusal_of (fault.Leak s) = refused rule.Clearance 0 0
