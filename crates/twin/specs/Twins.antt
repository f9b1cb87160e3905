-- What two lists of calls promise, made in two runs of one routine.
use Rattle.std.specs.Prelude.{◌≡◌, ℕ, Bool, true, false, ◌&&◌, List, map, Some, Ok, Err, Result}
use Rattle.rules.specs.Order.{Order}
use Rattle.rules.specs.Leakage.{Leakage}
use Rattle.rules.specs.Clearance.{Setting, Cleared, Leak, TellsOpen}
use Rattle.rules.specs.Run.{Run, Agree, Alike, terms}
use Rattle.clearance.specs.declared.record.Examination.{Examination}
use Rattle.clearance.specs.declared.outcome.ClearFault.TheVariants as fault
use Rattle.clearance.specs.Bounds.{bound_number}
use Rattle.clearance.specs.Outcomes.{is_granted, fault_of}
use Rattle.clearance.specs.Scenes.{Scene, scene, setting, Fitting}
use Rattle.clearance.specs.Examinations.{Examined}
use Rattle.leakage.specs.declared.model.LeakageModel.{Ghosts}
use Rattle.run.specs.Views.{of_memory, zeroed}
use Rattle.run.specs.Runs.{terms_of, state_of}
use Rattle.run.specs.declared.memory.Memory.{Memory}
use Rattle.twin.specs.declared.pair.Two.{Two}
use Rattle.twin.specs.declared.pair.Open.{Open}
use Rattle.twin.specs.declared.pair.Declined.{Declined}
use Rattle.twin.specs.declared.pair.Reason.{Reason}
use Rattle.twin.specs.declared.pair.Reason.TheVariants.{Room, Clear}
use Rattle.twin.specs.Logs.{Journal, of_call, room_in, heard_in, start_of, stop_of, Untouched, Logged}

-- Both logs have room.
abbrev pub both_room : Journal → Journal → Bool
both_room j k = room_in j && room_in k

-- To the listener the two runs look the same: the logs read alike in every count, end, line below the count, grant, value and refusal; the
-- runs stand at one point; and their memories agree there on every open scalar and every element of an open array.
pub record SameLook {L : Type 0} (c : Setting L) (j k : Journal) (s t : Run) : Type 0 where
  pub same_heard : heard_in j ≡ heard_in k
  pub same_point : s.point ≡ t.point
  pub agree : Agree c s.point s.memory t.memory

-- The guarantee, of runs that stand at s and t: if the start memories agree in all that is open at point 0, and the lists of calls are
-- alike, then the runs look the same.
abbrev pub LookAlike : {L : Type 0} → Scene L → Journal → Journal → Run → Run → Type 0
LookAlike x j k s t =
    Agree (setting x) 0 (of_memory j.memory) (of_memory k.memory)
    → Alike (setting x) (start_of j) (map of_call j.calls) (map of_call k.calls)
    → SameLook (setting x) j k s t

-- The log is that of the rules, by every table that tells what is open; and there is such a table.
pub record LoggedByRules {L : Type 0} (c : Setting L) (j : Journal) : Type 0 where
  pub told : (opens : ℕ → ℕ → Bool) × TellsOpen c opens
  pub logged : (opens : ℕ → ℕ → Bool) → TellsOpen c opens → Logged (terms c opens) (start_of j) j

-- No run was begun: the memories are given back as they were, and both logs hold what they held.
pub record Kept (j k : Journal) (d : Declined) : Type 0 where
  pub first_memory : d.memories.first ≡ j.memory
  pub second_memory : d.memories.second ≡ k.memory
  pub first_log : Untouched j
  pub second_log : Untouched k

module _ {L : Type 0} (x : Scene L) (j k : Journal) where
  -- Both lists were made: there was room, the table fits, and some typing table meets the rules. Both logs are right, the guarantee holds, and
  -- both memories are given back with zero in every scalar and cell.
  pub record Ran (w : Two Memory) : Type 0 where
    pub room : both_room j k ≡ true
    pub fits : Fitting x
    pub cleared : Cleared (setting x)
    pub first_log : LoggedByRules (setting x) j
    pub second_log : LoggedByRules (setting x) k
    pub alike : LookAlike x j k (stop_of x.listing j) (stop_of x.listing k)
    pub first_wiped : w.first ≡ zeroed
    pub second_wiped : w.second ≡ zeroed

  -- Why no run was begun: a log has too little room; else the table does not fit, 10; else the leak that is named, 11.
  abbrev pub DeclinedFor : Reason → Type 0
  DeclinedFor Room = both_room j k ≡ false
  DeclinedFor (Clear fault.TableLength) = (both_room j k ≡ true) × (Fitting x → ⊥)
  DeclinedFor (Clear (fault.Leak s)) =
      (both_room j k ≡ true) × Fitting x × Leak (setting x) s.node s.operand (bound_number s.bound) s.name

  -- What a trial promises.
  abbrev pub Tried : Result (Two Memory) Declined → Type 0
  Tried (Ok w) = Ran w
  Tried (Err d) = DeclinedFor d.reason × Kept j k d

-- What a record was made of, with the levels and the listener that it was made for.
abbrev pub scene_in : {L M : Type 0} → Order L → (M → Leakage) → List L → L → Examination M → Scene L
scene_in o w levels listener e = scene o (w e.model) e.routine.listing levels listener

-- Why no run was begun: a log has too little room, or else what clear refuses.
abbrev pub DeclinedBy : {M : Type 0} → Examination M → Journal → Journal → Reason → Type 0
DeclinedBy e j k Room = both_room j k ≡ false
DeclinedBy e j k (Clear f) = (both_room j k ≡ true) × (fault_of e.outcome ≡ Some f)

module _ {L M : Type 0} {g : Ghosts M} (o : Order L) (w : M → Leakage) (levels : List L) (listener : L) (e : Examination M) (j k : Journal) where
  -- Both lists were made, and both runs of the record are still open, where the rules say that they stand. The guarantee holds of these levels
  -- and this listener if the record was made for them.
  pub record BothOpen (p : Two (Open M g)) : Type 0 where
    pub room : both_room j k ≡ true
    pub granted : is_granted e.outcome ≡ true
    pub first_exam : p.first.run.exam.now ≡ e
    pub second_exam : p.second.run.exam.now ≡ e
    pub first_log : Logged (terms_of w e) (start_of j) j
    pub second_log : Logged (terms_of w e) (start_of k) k
    pub first_state : state_of p.first.run ≡ stop_of e.routine.listing j
    pub second_state : state_of p.second.run ≡ stop_of e.routine.listing k
    pub alike :
        Examined (scene_in o w levels listener e) e
        → LookAlike (scene_in o w levels listener e) j k (state_of p.first.run) (state_of p.second.run)

  -- What a pair of runs promises.
  abbrev pub Paired : Result (Two (Open M g)) Declined → Type 0
  Paired (Ok p) = BothOpen p
  Paired (Err d) = DeclinedBy e j k d.reason × Kept j k d
