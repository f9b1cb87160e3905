-- Logs, as they are overwritten and as they are read.
use Rattle.std.proofs.Common.{◌≡◌, ℕ, List, [], ◌∷◌, ◌++◌, map, length, take, drop, sym, refl, ap, ◌∙◌, ap₂, take-append-drop}
use Rattle.std.proofs.lemmas.List.{length-map}
use Rattle.rules.specs.Run.{Terms, Run, lines_of, reply}
use Rattle.rules.specs.Run.{Answer as RulesAnswer}
use Rattle.rules.specs.Run.Call.{Advance}
use Rattle.rules.specs.Run.Answer.{Advanced, Granted, Told, Refused}
use Rattle.twin.specs.declared.call.Call.{Call}
use Rattle.twin.specs.declared.call.Call.TheVariants as call
use Rattle.run.specs.declared.memory.LeakLine.{LeakLine}
use Rattle.run.specs.declared.memory.Advanced.{Advanced as Answered}
use Rattle.run.specs.Views.{of_line, leak_line}
use Rattle.run.specs.Runs.{advanced}
use Rattle.twin.specs.Logs.{of_call, places, lines_in, overwritten}

lines_back : (ys : List LeakLine) → map leak_line (map of_line ys) ≡ ys
lines_back [] = refl
lines_back (y ∷ ys) = ap (λ zs. y ∷ zs) (lines_back ys)

abbrev count_in : RulesAnswer → ℕ
count_in (Advanced n e ls) = n
count_in Granted = 0
count_in (Told v) = 0
count_in (Refused f) = 0

-- What advance wrote, as an equation with the room that it was given.
pub room_after :
    (x : Terms) (s : Run) (n : ℕ) (a : Answered) (xs held : List LeakLine)
    → advanced a xs ≡ reply x (Advance n) s
    → drop a.count xs ≡ drop a.count held
    → xs ≡ overwritten (lines_in (reply x (Advance n) s)) held
room_after x s n a xs held h k =
    let front : take a.count xs ≡ lines_in (reply x (Advance n) s) = sym (lines_back (take a.count xs)) ∙ ap lines_in h in
    let counted : a.count ≡ length (lines_in (reply x (Advance n) s)) =
    ap count_in h ∙ sym (length-map (lines_of x.model x.routine n s) leak_line) in
    sym (take-append-drop a.count xs) ∙ ap₂ ◌++◌ front (k ∙ ap (λ m. drop m held) counted)

-- The call that advance with so many places is.
pub advance_is : (c : Call) (k : ℕ) (held : List LeakLine) → c ≡ call.Advance k → length held ≡ places c → Advance (length held) ≡ of_call c
advance_is c k held e f = ap Advance (f ∙ ap places e) ∙ sym (ap of_call e)
