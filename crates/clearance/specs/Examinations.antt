-- What an examination tells.
use Rattle.std.specs.Prelude.{◌≡◌, ℕ, ◌+◌, ◌<◌, ◌≤◌, Ok, Err}
use Rattle.reach.specs.declared.opens.OpenNames.{OpenNames}
use Rattle.reach.specs.Opens.{NoneOpen}
use Rattle.rules.specs.Routine.{end}
use Rattle.rules.specs.Clearance.{Setting, Cleared, Leak, TellsOpen, array_level}
use Rattle.clearance.specs.declared.outcome.ClearFault.TheVariants as fault
use Rattle.clearance.specs.declared.record.Examination.{Examination}
use Rattle.clearance.specs.Bounds.{bound_number}
use Rattle.clearance.specs.Outcomes.{Outcome}
use Rattle.clearance.specs.Opens.{opens_of}
use Rattle.clearance.specs.Scenes.{Scene, setting, Fitting}

-- Granted: some typing table meets the rules. A leak: the one that the rules name.
abbrev pub RightOutcome : {L : Type 0} → Setting L → Outcome → Type 0
RightOutcome c (Ok u) = Cleared c
RightOutcome c (Err fault.TableLength) = ⊥
RightOutcome c (Err (fault.Leak s)) = Leak c s.node s.operand (bound_number s.bound) s.name

-- The open names tell which scalars are open at each point, and which arrays.
pub record RightOpens {L : Type 0} (c : Setting L) (arrays : ℕ) (o : OpenNames) : Type 0 where
  pub scalars : TellsOpen c (opens_of o)
  pub array_is :
      (p t : ℕ)
      → p ≤ end c.labelled.routine
      → t < arrays
      → opens_of o p (c.labelled.routine.scalars + t) ≡ c.labelled.order.flows (array_level c.labelled t) c.listener

-- Where the table has another length, the outcome says so and nothing is open; else the outcome and the open names are those of the rules.
pub record Examined {L M : Type 0} (x : Scene L) (r : Examination M) : Type 0 where
  pub wrong_length : (Fitting x → ⊥) → (r.outcome ≡ Err fault.TableLength) × NoneOpen r.opens
  pub right_outcome : Fitting x → RightOutcome (setting x) r.outcome
  pub right_opens : Fitting x → RightOpens (setting x) x.listing.counts.arrays r.opens
