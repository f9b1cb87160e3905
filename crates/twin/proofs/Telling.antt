-- Two tables that tell what is open give the same answers and the same log.
use Rattle.std.proofs.Common.{◌≡◌, ℕ, ◌<◌, ◌≤◌, Bool, true, false, cond, ltb, List, [], ◌∷◌, ◌++◌, map, take, drop, sym, refl, ap, ◌∙◌, ap₂}
use Rattle.std.proofs.lemmas.Bool.{ltb-true}
use Rattle.rules.specs.Routine.{WellFormed, arrays, region, end}
use Rattle.rules.specs.Clearance.{Setting, TellsOpen}
use Rattle.rules.specs.Run.{Terms, Run, reply, after, replies, value_at, exists, no_array, no_element, no_scalar, shut}
use Rattle.rules.specs.Run.Name.{Scalar, Element}
use Rattle.rules.specs.Run.{Call as RulesCall, Answer as RulesAnswer}
use Rattle.rules.specs.Run.Call.{Advance, Feed, Ask}
use Rattle.rules.specs.Run.Answer.{Told, Refused}
use Rattle.rules.proofs.Advancing.{advances}
use Rattle.run.specs.declared.memory.LeakLine.{LeakLine}
use Rattle.twin.specs.declared.call.Call.{Call}
use Rattle.twin.specs.Logs.{Journal, of_call, laid, overwritten, lines_in, places, Logged}

same_test : (a b : Bool) → (a ≡ true → b ≡ true) → (b ≡ true → a ≡ true) → a ≡ b
same_test true b f g = sym (f refl)
same_test false true f g = g refl
same_test false false f g = refl

-- Two tables that tell what is open tell the same.
pub same_opens :
    {L : Type 0} (c : Setting L) (f g : ℕ → ℕ → Bool)
    → TellsOpen c f
    → TellsOpen c g
    → (p k : ℕ)
    → p ≤ end c.labelled.routine
    → k < c.labelled.routine.scalars
    → f p k ≡ g p k
same_opens c f g F G p k hp hk =
    same_test (f p k) (g p k) (λ e. G.whole p k hp hk (F.sound p k hp hk e)) (λ e. F.whole p k hp hk (G.sound p k hp hk e))

-- Terms that differ in what they tell of points, scalars and arrays that there are not.
module _ (x : Terms) (opens : ℕ → ℕ → Bool) (shown : ℕ → Bool) (wf : WellFormed x.routine)
    (same-scalars : (p k : ℕ) → p ≤ end x.routine → k < x.routine.scalars → x.opens p k ≡ opens p k)
    (same-arrays : (t : ℕ) → t < arrays x.routine → x.shown t ≡ shown t) where
  abbrev other : Terms
  other = record { routine = x.routine; model = x.model; opens = opens; shown = shown }

  under : (b : Bool) (a a' d : RulesAnswer) → (b ≡ true → a ≡ a') → cond b a d ≡ cond b a' d
  under true a a' d f = f refl
  under false a a' d f = refl

  reply_same : (y : RulesCall) (s : Run) → s.point ≤ end x.routine → reply x y s ≡ reply other y s
  reply_same (Advance k) s h = refl
  reply_same (Feed n v) s h = refl
  reply_same (Ask (Scalar k)) s h =
      under (ltb k x.routine.scalars) _ _ (Refused no_scalar)
      (λ e. ap (λ b. cond b (Told (value_at x.routine (Scalar k) s.memory)) (Refused shut)) (same-scalars s.point k h (ltb-true _ _ e)))
  reply_same (Ask (Element t i)) s h =
      under (ltb t (arrays x.routine)) _ _ (Refused no_array)
      (λ e. ap (λ b. cond (ltb i (region x.routine t).length) (cond b (Told (value_at x.routine (Element t i) s.memory)) (Refused shut)) (Refused no_element)) (same-arrays t (ltb-true _ _ e)))

  either : (b : Bool) (s t : Run) → s.point ≤ end x.routine → t.point ≤ end x.routine → (cond b s t).point ≤ end x.routine
  either true s t h k = h
  either false s t h k = k

  inside : (y : RulesCall) (s : Run) → s.point ≤ end x.routine → (after x.routine y s).point ≤ end x.routine
  inside (Advance k) s h = (advances x.model x.routine s).stays_inside wf h k
  inside (Feed n v) s h = either (exists x.routine n) _ s h h
  inside (Ask n) s h = h

  replies_same : (ys : List RulesCall) (s : Run) → s.point ≤ end x.routine → replies x ys s ≡ replies other ys s
  replies_same [] s h = refl
  replies_same (y ∷ ys) s h = ap₂ ◌∷◌ (reply_same y s h) (replies_same ys (after x.routine y s) (inside y s h))

  laid_same : (cs : List Call) (s : Run) (held : List LeakLine) → s.point ≤ end x.routine → laid x cs s held ≡ laid other cs s held
  unfolding laid
  laid_same [] s held h = refl
  laid_same (c ∷ cs) s held h =
      ap₂ ◌++◌
      (ap (λ a. overwritten (lines_in a) (take (places c) held)) (reply_same (of_call c) s h))
      (laid_same cs (after x.routine (of_call c) s) (drop (places c) held) (inside (of_call c) s h))

  pub logged_same : (s : Run) (j : Journal) → s.point ≤ end x.routine → Logged x s j → Logged other s j
  logged_same s j h l =
      record {
        answered = l.answered ∙ replies_same (map of_call j.calls) s h;
        more_answers = l.more_answers;
        lined = l.lined ∙ laid_same j.calls s j.lines_before h;
      }
