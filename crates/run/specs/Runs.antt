-- A run of the code, read as a run of the rules; and what its calls answer, read as the rules' answers.
use Rattle.std.specs.Prelude.{ℕ, ◌+◌, List, map, take, Ok, Err, Result}
use Rattle.rules.specs.Leakage.{Leakage}
use Rattle.rules.specs.Run.{Terms, Call, Answer, Run as RulesRun, reply, after}
use Rattle.rules.specs.Run.Answer.{Advanced, Granted, Told, Refused}
use Rattle.leakage.specs.declared.model.LeakageModel.{Ghosts}
use Rattle.listing.specs.Forms.{routine_of}
use Rattle.clearance.specs.declared.record.Examination.{Examination}
use Rattle.clearance.specs.Opens.{opens_of}
use Rattle.run.specs.declared.run.Run.{Run}
use Rattle.run.specs.declared.memory.Advanced.{Advanced as AdvancedAnswer}
use Rattle.run.specs.declared.memory.LeakLine.{LeakLine}
use Rattle.run.specs.declared.faults.RunFault.{RunFault}
use Rattle.run.specs.Views.{of_memory, of_line, of_fault}

-- What a run of what was examined goes by, where w tells what each model means: the open names are those of the record.
abbrev pub terms_of : {M : Type 0} → (M → Leakage) → Examination M → Terms
terms_of w e =
    record {
      routine = routine_of e.routine.listing;
      model = w e.model;
      opens = opens_of e.opens;
      shown = λ t. opens_of e.opens 0 (e.routine.listing.counts.scalars + t);
    }

abbrev pub terms_in : {M : Type 0} {g : Ghosts M} → (M → Leakage) → Run M g → Terms
terms_in w r = terms_of w r.exam.now

-- Where a run stands.
abbrev pub state_of : {M : Type 0} {g : Ghosts M} → Run M g → RulesRun
state_of r = record { point = r.point; memory = of_memory r.memory }

-- The rules' answer to a call.
abbrev pub answer_to : {M : Type 0} {g : Ghosts M} → (M → Leakage) → Run M g → Call → Answer
answer_to w r y = reply (terms_in w r) y (state_of r)

-- Where the rules say that a run stands after a call.
abbrev pub state_past : {M : Type 0} {g : Ghosts M} → Run M g → Call → RulesRun
state_past r y = after (routine_of r.exam.now.routine.listing) y (state_of r)

-- What advance answers, with its lines below the count.
abbrev pub advanced : AdvancedAnswer → List LeakLine → Answer
advanced a xs = Advanced a.count a.at_end (map of_line (take a.count xs))

-- What feed answers.
abbrev pub granted : Result (Unit {0}) RunFault → Answer
granted (Ok _) = Granted
granted (Err f) = Refused (of_fault f)

-- What ask answers.
abbrev pub asked : Result ℕ RunFault → Answer
asked (Ok v) = Told v
asked (Err f) = Refused (of_fault f)
