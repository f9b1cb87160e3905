-- What is measured, as numbers.
use Rattle.std.specs.Prelude.{◌≡◌, ℕ, ◌+◌, cond, List, length, replicate, Ok, Err, Result}
use Rattle.rules.specs.Run.{started, lines_of}
use Rattle.rules.specs.Standing.{baseline}
use Rattle.listing.specs.declared.faults.RoutineFault.{RoutineFault}
use Rattle.listing.specs.declared.parts.Listing.{Listing}
use Rattle.listing.specs.Faults.{rule_number, refusal_of}
use Rattle.listing.specs.Forms.{routine_of}
use Rattle.levels.specs.declared.secrecy.Secrecy.{Secrecy}
use Rattle.levels.specs.declared.secrecy.Secrecy.TheVariants.{Public}
use Rattle.levels.specs.Secrecy.{secrecy_order}
use Rattle.clearance.specs.Examinations.{RightOutcome}
use Rattle.clearance.specs.Outcomes.{Outcome, is_granted}
use Rattle.clearance.specs.Scenes.{Scene, scene, setting}
use Rattle.verdict.specs.declared.slip.Slip.{Slip}
use Rattle.verdict.specs.declared.slip.Slip.TheVariants.{Clear, Leak, Refused}
use Rattle.verdict.specs.Verdicts.{Judged}
use Rattle.run.specs.Views.{of_memory, zeroed}

-- 0 where the listing loads, and else the number of its refusal
abbrev pub load_number : Result Listing RoutineFault → ℕ
load_number (Ok t) = 0
load_number (Err f) = rule_number (refusal_of f).rule

-- 0, 11, or the number of the refusal
abbrev pub slip_number : Slip → ℕ
slip_number Clear = 0
slip_number (Leak s) = 11
slip_number (Refused r) = rule_number r.rule

-- the number of the verdict on level digits and a listing
abbrev pub ClearNumber : List ℕ → List ℕ → ℕ → Type 0
ClearNumber ds s n = (x : Slip) × Judged ds s x × (n ≡ slip_number x)

-- how many steps the listing makes from a memory of zeros, at most n
abbrev pub steps_of : Listing → ℕ → ℕ
steps_of t n = length (lines_of baseline (routine_of t) n (started (of_memory zeroed)))

-- the steps of a run, if there is a clearance
abbrev pub made_steps : Outcome → Listing → ℕ → ℕ
made_steps o t n = cond (is_granted o) (steps_of t n) 0

-- every name public, the listener too, under the baseline
abbrev pub public_scene : Listing → Scene Secrecy
public_scene t = scene secrecy_order baseline t (replicate (t.counts.scalars + t.counts.arrays) Public) Public

-- Of a listing that loads, the steps of its run where the rules clear it, and else 0; of any other, 0.
abbrev pub Probed : Result Listing RoutineFault → ℕ → ℕ → Type 0
Probed (Ok t) n r = (o : Outcome) × RightOutcome (setting (public_scene t)) o × (r ≡ made_steps o t n)
Probed (Err f) n r = r ≡ 0
