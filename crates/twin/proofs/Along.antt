-- What performing a list of calls has done after i of them.
use Rattle.std.proofs.Common.{◌≡◌, ℕ, ◌+◌, ◌-◌, ◌<◌, ◌≤◌, cond, eqb, List, [], ◌∷◌, ◌++◌, length, get_or, take, drop, set, Ok, Err, sym, refl, ap, ◌∙◌, subst, append_assoc, arith, length-append, length-drop, length-set, take-append-drop}
use Rattle.std.proofs.lemmas.List.{take_more_set, drop-set-lt, drop_all, drop-drop, drop_more, append-nil, length-take-le}
use Rattle.std.proofs.lemmas.Slice.{take-put_mid, drop-put_mid}
use borrow.Rule.Slice.PartMut.{put_mid}
use Rattle.rules.specs.Run.{Terms, Run, reply, after}
use Rattle.rules.specs.Run.{Answer as RulesAnswer}
use Rattle.rules.specs.Run.Answer.{Advanced, Granted, Told}
use Rattle.rules.specs.Run.Answer.{Refused as RefusedSo}
use Rattle.run.specs.declared.memory.LeakLine.{LeakLine}
use Rattle.run.specs.declared.faults.RunFault.{RunFault}
use Rattle.run.specs.declared.faults.RunFault.TheVariants.{NoArray, NoElement, NoScalar, Shut}
use Rattle.twin.specs.declared.call.Call.{Call}
use Rattle.twin.specs.declared.call.Call.TheVariants.{Advance}
use Rattle.twin.specs.declared.call.Reply.TheVariants.{Stepped, Fed, Asked}
use Rattle.twin.specs.Logs.{Answer, of_call, told, lines_in, overwritten, laid, last_state, places, all_places}

-- The code's answer that an answer of the rules is.
abbrev pub fault_from : ℕ → RunFault
fault_from n = cond (eqb n 12) NoArray (cond (eqb n 13) NoElement (cond (eqb n 14) NoScalar Shut))

abbrev pub said_as : RulesAnswer → Answer
said_as (Advanced n e ls) = Ok (Stepped (record { count = n; at_end = e }))
said_as Granted = Ok Fed
said_as (Told v) = Ok (Asked v)
said_as (RefusedSo f) = Err (fault_from f.number)

pub said_told : (a : Answer) (xs : List LeakLine) → said_as (told a xs) ≡ a
said_told (Ok (Stepped a)) xs = refl
said_told (Ok Fed) xs = refl
said_told (Ok (Asked v)) xs = refl
said_told (Err NoArray) xs = refl
said_told (Err NoElement) xs = refl
said_told (Err NoScalar) xs = refl
said_told (Err Shut) xs = refl

abbrev pub answer_of : Terms → Call → Run → Answer
answer_of x c s = said_as (reply x (of_call c) s)

abbrev pub state_after : Terms → Call → Run → Run
state_after x c s = after x.routine (of_call c) s

abbrev pub trace_of : Terms → Call → Run → List LeakLine
trace_of x c s = lines_in (reply x (of_call c) s)

unfoldable pub sayings : Terms → List Call → Run → List Answer
sayings x [] s = []
sayings x (c ∷ cs) s = answer_of x c s ∷ sayings x cs (state_after x c s)

pub record Along (x : Terms) (cs : List Call) (s₀ : Run) (room : List Answer) (held : List LeakLine)
    (i used : ℕ) (said : List Answer) (lines : List LeakLine) (s : Run) : Type 0 where
  pub fits : used + all_places (drop i cs) ≤ length lines
  pub answered : sayings x cs s₀ ≡ take i said ++ sayings x (drop i cs) s
  pub rest : drop i said ≡ drop i room
  pub long : length said ≡ length room
  pub laid_so : laid x cs s₀ held ≡ take used lines ++ laid x (drop i cs) s (drop used lines)
  pub ends : last_state x.routine cs s₀ ≡ last_state x.routine (drop i cs) s

pub along_none : (x : Terms) (cs : List Call) (s : Run) (room : List Answer) (held : List LeakLine) → all_places cs ≤ length held → Along x cs s room held 0 0 room held s
along_none x cs s room held h = record { fits = omega arith; answered = refl; rest = refl; long = refl; laid_so = refl; ends = refl }

dropped : {X : Type 0} (xs ys : List X) (i : ℕ) → drop i xs ≡ drop i ys → drop (i + 1) xs ≡ drop (i + 1) ys
dropped xs ys i e = sym (drop-drop 1 i xs) ∙ ap (drop 1) e ∙ drop-drop 1 i ys

module _ (x : Terms) (cs : List Call) (s₀ : Run) (room : List Answer) (held : List LeakLine)
    (i used : ℕ) (said : List Answer) (lines : List LeakLine) (s : Run) (p : Along x cs s₀ room held i used said lines s) (h : i < length cs) where
  cut : drop i cs ≡ get_or cs i (Advance 0) ∷ drop (i + 1) cs
  cut = drop_more cs i (Advance 0) h

  pub room_left : used + (places (get_or cs i (Advance 0)) + all_places (drop (i + 1) cs)) ≤ length lines
  room_left = subst (λ r. used + all_places r ≤ length lines) cut p.fits

  pub room_for : used + places (get_or cs i (Advance 0)) ≤ length lines
  room_for = let r = room_left in omega arith

  module _ (n : ℕ) (v : Answer) (part : List LeakLine) (s' : Run) (en : n ≡ places (get_or cs i (Advance 0))) (hs : i < length said)
      (ev : v ≡ answer_of x (get_or cs i (Advance 0)) s) (es : s' ≡ state_after x (get_or cs i (Advance 0)) s)
      (ep : part ≡ overwritten (trace_of x (get_or cs i (Advance 0)) s) (take ((used + n) - used) (drop used lines))) (lp : length part ≡ n) where
    fit : used + n ≤ length lines
    fit = let r = room_for in omega (arith, en)

    within : used ≤ length lines
    within = let r = fit in omega arith

    k_is : (used + n) - used ≡ n
    k_is = omega arith

    front : take (used + n) (put_mid used ((used + n) - used) lines part) ≡ take used lines ++ part
    front = take-put_mid used ((used + n) - used) lines part (used + n) (ap (λ m. used + m) (sym lp)) within

    back : drop (used + n) (put_mid used ((used + n) - used) lines part) ≡ drop (used + n) lines
    back = drop-put_mid used ((used + n) - used) lines part (used + n) (omega arith) within (lp ∙ sym k_is)

    same_length : length (put_mid used ((used + n) - used) lines part) ≡ length lines
    same_length =
        let a : length (take used lines ++ part) ≡ length (take used lines) + length part = length-append (take used lines) part in
        let b : length (take used lines) ≡ used = length-take-le used lines within in
        let d : length (drop (used + n) lines) ≡ length lines - (used + n) = length-drop (used + n) lines in
        let f = fit in
        sym (ap length (take-append-drop (used + n) (put_mid used ((used + n) - used) lines part)))
        ∙ length-append (take (used + n) (put_mid used ((used + n) - used) lines part)) (drop (used + n) (put_mid used ((used + n) - used) lines part))
        ∙ ap (λ l. length l + length (drop (used + n) (put_mid used ((used + n) - used) lines part))) front
        ∙ ap (λ l. length (take used lines ++ part) + length l) back
        ∙ omega (arith, a, b, d, lp)

    said_so : sayings x cs s₀ ≡ take (i + 1) (set said i v) ++ sayings x (drop (i + 1) cs) s'
    unfolding sayings
    said_so =
        p.answered ∙ ap (λ r. take i said ++ sayings x r s) cut
        ∙ sym (append_assoc (take i said) (answer_of x (get_or cs i (Advance 0)) s ∷ []) (sayings x (drop (i + 1) cs) (state_after x (get_or cs i (Advance 0)) s)))
        ∙ ap (λ a. (take i said ++ (a ∷ [])) ++ sayings x (drop (i + 1) cs) (state_after x (get_or cs i (Advance 0)) s)) (sym ev)
        ∙ ap (λ t. (take i said ++ (v ∷ [])) ++ sayings x (drop (i + 1) cs) t) (sym es)
        ∙ ap (λ l. l ++ sayings x (drop (i + 1) cs) s') (sym (take_more_set said i v hs))

    laid_on : laid x cs s₀ held ≡ take (used + n) (put_mid used ((used + n) - used) lines part) ++ laid x (drop (i + 1) cs) s' (drop (used + n) (put_mid used ((used + n) - used) lines part))
    unfolding laid
    laid_on =
        let tr = trace_of x (get_or cs i (Advance 0)) s in
        let m = places (get_or cs i (Advance 0)) in
        p.laid_so ∙ ap (λ r. take used lines ++ laid x r s (drop used lines)) cut
        ∙ ap (λ j. take used lines ++ (overwritten tr (take j (drop used lines)) ++ laid x (drop (i + 1) cs) (state_after x (get_or cs i (Advance 0)) s) (drop m (drop used lines)))) (sym (k_is ∙ en))
        ∙ ap (λ l. take used lines ++ (l ++ laid x (drop (i + 1) cs) (state_after x (get_or cs i (Advance 0)) s) (drop m (drop used lines)))) (sym ep)
        ∙ ap (λ t. take used lines ++ (part ++ laid x (drop (i + 1) cs) t (drop m (drop used lines)))) (sym es)
        ∙ ap (λ l. take used lines ++ (part ++ laid x (drop (i + 1) cs) s' l)) (ap (λ j. drop j (drop used lines)) (sym en) ∙ drop-drop n used lines ∙ sym back)
        ∙ sym (append_assoc (take used lines) part (laid x (drop (i + 1) cs) s' (drop (used + n) (put_mid used ((used + n) - used) lines part))))
        ∙ ap (λ l. l ++ laid x (drop (i + 1) cs) s' (drop (used + n) (put_mid used ((used + n) - used) lines part))) (sym front)

    ended : last_state x.routine cs s₀ ≡ last_state x.routine (drop (i + 1) cs) s'
    ended = p.ends ∙ ap (λ r. last_state x.routine r s) cut ∙ ap (last_state x.routine (drop (i + 1) cs)) (sym es)

    pub along_more : Along x cs s₀ room held (i + 1) (used + n) (set said i v) (put_mid used ((used + n) - used) lines part) s'
    along_more =
        let r = room_left in
        let w = same_length in
        record {
          fits = omega (arith, en, w);
          answered = said_so;
          rest = drop-set-lt (i + 1) said i v (omega arith) ∙ dropped said room i p.rest;
          long = length-set said i v ∙ p.long;
          laid_so = laid_on;
          ends = ended;
        }

  -- the same, of a call that the code made, in a setting that is known to be x
  pub along_step : (x' : Terms) (n : ℕ) (v : Answer) (part : List LeakLine) (s' : Run) → x' ≡ x → n ≡ places (get_or cs i (Advance 0)) → i < length said
      → v ≡ answer_of x' (get_or cs i (Advance 0)) s → s' ≡ state_after x' (get_or cs i (Advance 0)) s
      → part ≡ overwritten (trace_of x' (get_or cs i (Advance 0)) s) (take ((used + n) - used) (drop used lines)) → length part ≡ length (take ((used + n) - used) (drop used lines))
      → Along x cs s₀ room held (i + 1) (used + n) (set said i v) (put_mid used ((used + n) - used) lines part) s'
  along_step x' n v part s' same en hs ev es ep lp =
      let c = get_or cs i (Advance 0) in
      let r = room_for in
      let d : length (drop used lines) ≡ length lines - used = length-drop used lines in
      let q : (used + n) - used ≤ length (drop used lines) = omega (arith, en, d, r) in
      let l : length part ≡ n = lp ∙ length-take-le _ (drop used lines) q ∙ omega arith in
      along_more n v part s' en hs (ev ∙ ap (λ y. answer_of y c s) same) (es ∙ ap (λ y. state_after y c s) same)
      (ep ∙ ap (λ y. overwritten (trace_of y c s) (take ((used + n) - used) (drop used lines))) same) l

module _ (x : Terms) (cs : List Call) (s₀ : Run) (room : List Answer) (held : List LeakLine)
    (i used : ℕ) (said : List Answer) (lines : List LeakLine) (s : Run) (p : Along x cs s₀ room held i used said lines s) (h : i ≡ length cs) where
  over : drop i cs ≡ []
  over = drop_all i cs (omega (arith, h))

  pub all_answered : said ≡ sayings x cs s₀ ++ drop (length cs) room
  unfolding sayings
  all_answered =
      let a : sayings x cs s₀ ≡ take i said = p.answered ∙ ap (λ r. take i said ++ sayings x r s) over ∙ append-nil (take i said) in
      sym (take-append-drop i said) ∙ ap (λ l. l ++ drop i said) (sym a) ∙ ap (λ l. sayings x cs s₀ ++ l) (p.rest ∙ ap (λ j. drop j room) h)

  pub all_laid : lines ≡ laid x cs s₀ held
  unfolding laid
  all_laid = sym (p.laid_so ∙ ap (λ r. take used lines ++ laid x r s (drop used lines)) over ∙ take-append-drop used lines)

  pub all_ended : s ≡ last_state x.routine cs s₀
  all_ended = sym (p.ends ∙ ap (λ r. last_state x.routine r s) over)
