-- From the rules' two runs to what both and trial promise.
use Rattle.std.proofs.Common.{◌≡◌, true, List, map, Some, Ok, Err, sym, ap, ◌∙◌, subst, subst₂, arith}
use Rattle.std.proofs.lemmas.Grind.{common_steps}
use Rattle.rules.specs.Order.{Order, Lawful}
use Rattle.rules.specs.Leakage.{Leakage, Honest}
use Rattle.rules.specs.Clearance.{Setting, Leak, array_level}
use Rattle.rules.specs.Run.{Run, Sized, Agree}
use Rattle.rules.proofs.Proved.{two_runs}
use Rattle.listing.specs.declared.routine.Routine.{Routine}
use Rattle.reach.proofs.Loaded.{formed_of, arrays_of}
use Rattle.clearance.specs.declared.record.Examination.{Examination}
use Rattle.clearance.specs.declared.outcome.ClearFault.TheVariants as fault
use Rattle.clearance.specs.Bounds.{bound_number}
use Rattle.clearance.specs.declared.leak.LeakSite.{LeakSite}
use Rattle.clearance.specs.Outcomes.{Outcome, is_granted, fault_of}
use Rattle.clearance.specs.Opens.{opens_of}
use Rattle.clearance.specs.Scenes.{Scene, scene, setting, Fitting}
use Rattle.clearance.specs.Examinations.{Examined, RightOpens, RightOutcome}
use Rattle.clearance.proofs.Tellings.{earned}
use Rattle.run.specs.Views.{of_memory, zeroed}
use Rattle.run.specs.Runs.{terms_of}
use Rattle.leakage.specs.declared.model.LeakageModel.{Ghosts}
use Rattle.run.specs.declared.memory.Memory.{Memory}
use Rattle.twin.specs.declared.pair.Two.{Two}
use Rattle.twin.specs.declared.pair.Open.{Open}
use Rattle.twin.specs.Logs.{Journal, of_call, start_of, stop_of, Logged}
use Rattle.twin.specs.declared.pair.Declined.{Declined}
use Rattle.twin.specs.declared.pair.Reason.{Reason}
use Rattle.twin.specs.declared.pair.Reason.TheVariants.{Room, Clear}
use Rattle.twin.specs.Twins.{LookAlike, LoggedByRules, Ran, Kept, Tried, DeclinedBy, DeclinedFor, BothOpen, scene_in}
use Rattle.twin.proofs.Telling.{same_opens, logged_same}

module _ {L M : Type 0} (o : Order L) (w : M → Leakage) (levels : List L) (listener : L) (e : Examination M)
    (granted : is_granted e.outcome ≡ true) (E : Examined (scene_in o w levels listener e) e) where
  abbrev X : Scene L
  X = scene_in o w levels listener e

  abbrev C : Setting L
  C = setting X

  opens : RightOpens C e.routine.listing.counts.arrays e.opens
  opens = E.right_opens (earned X e E granted).0

  -- The log of a run of the record is that of the rules.
  pub by_rules : (j : Journal) → Logged (terms_of w e) (start_of j) j → LoggedByRules C j
  by_rules j l =
      record {
        told = (opens_of e.opens, opens.scalars);
        logged = λ tells T.
            logged_same (terms_of w e) tells (λ t. o.flows (array_level C.labelled t) listener) (formed_of e.routine)
            (same_opens C (opens_of e.opens) tells opens.scalars T)
            (λ t h. opens.array_is 0 t (omega arith) (omega (arith, arrays_of e.routine, h)))
            (start_of j) j (omega arith) l;
      }

  pub looks :
      Lawful o
      → Honest (w e.model)
      → (j k : Journal)
      → Sized (of_memory j.memory)
      → Sized (of_memory k.memory)
      → Logged (terms_of w e) (start_of j) j
      → Logged (terms_of w e) (start_of k) k
      → (s t : Run)
      → s ≡ stop_of e.routine.listing j
      → t ≡ stop_of e.routine.listing k
      → LookAlike X j k s t
  looks laws honest j k z z' l l' s t at at' agree alike =
      let one = (by_rules j l).logged (opens_of e.opens) opens.scalars in
      let two = (by_rules k l').logged (opens_of e.opens) opens.scalars in
      let out =
      two_runs C laws honest (formed_of e.routine) (earned X e E granted).1 (opens_of e.opens) opens.scalars
      (of_memory j.memory) (of_memory k.memory) z z' agree (map of_call j.calls) (map of_call k.calls) alike in
      record {
        same_heard = one.answered ∙ out.same_answers ∙ sym two.answered;
        same_point = ap (λ u. u.point) at ∙ out.same_point ∙ sym (ap (λ u. u.point) at');
        agree = subst₂ (λ u v. Agree C u.point u.memory v.memory) (sym at) (sym at') out.agree;
      }

leaks : {L : Type 0} (c : Setting L) (out : Outcome) (s : LeakSite) → RightOutcome c out → fault_of out ≡ Some (fault.Leak s) → Leak c s.node s.operand (bound_number s.bound) s.name
leaks c (Ok u) s r f = cc
leaks c (Err fault.TableLength) s r f = absurd r
leaks c (Err (fault.Leak x)) s r f = let same : x ≡ s = cc in subst (λ y. Leak c y.node y.operand (bound_number y.bound) y.name) same r

module _ {L M : Type 0} (o : Order L) (w : M → Leakage) (levels : List L) (listener : L) (e : Examination M) (j k : Journal)
    (routine : Routine) (model : M) (keeps : (e.routine ≡ routine) × (e.model ≡ model))
    (E : Examined (scene o (w model) routine.listing levels listener) e) where
  -- Where both lists were made, and both runs are closed.
  pub tried :
      {g : Ghosts M} (p : Two (Open M g)) (wiped : Two Memory)
      → BothOpen o w levels listener e j k p
      → wiped.first ≡ zeroed
      → wiped.second ≡ zeroed
      → Tried (scene o (w model) routine.listing levels listener) j k (Ok wiped)
  tried p wiped b z z' =
      let P : Routine → M → Type 0 =
      λ r m. Examined (scene o (w m) r.listing levels listener) e → Ran (scene o (w m) r.listing levels listener) j k wiped in
      let X' = scene_in o w levels listener e in
      let own : P e.routine e.model =
      λ E'.
      record {
        room = b.room;
        fits = (earned X' e E' b.granted).0;
        cleared = (earned X' e E' b.granted).1;
        first_log = by_rules o w levels listener e b.granted E' j b.first_log;
        second_log = by_rules o w levels listener e b.granted E' k b.second_log;
        alike = subst₂ (LookAlike X' j k) b.first_state b.second_state (b.alike E');
        first_wiped = z;
        second_wiped = z';
      } in
      subst₂ P keeps.0 keeps.1 own E

  -- Where no run was begun.
  declined_for : (r : Reason) → DeclinedBy e j k r → DeclinedFor (scene o (w model) routine.listing levels listener) j k r
  declined_for Room h = h
  declined_for (Clear fault.TableLength) h =
      let f = h.1 in let out = E.right_outcome in grind (arith, common_steps)
  declined_for (Clear (fault.Leak s)) h =
      let f = h.1 in let long = E.wrong_length in
      let fits : Fitting (scene o (w model) routine.listing levels listener) = grind (arith, common_steps) in
      (h.0, fits, leaks _ e.outcome s (E.right_outcome fits) h.1)

  pub declined : (d : Declined) → DeclinedBy e j k d.reason × Kept j k d → Tried (scene o (w model) routine.listing levels listener) j k (Err d)
  declined d p = (declined_for d.reason p.0, p.1)
