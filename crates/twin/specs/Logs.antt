-- A list of calls, its log, and how the log is read as the rules' answers.
use Rattle.std.specs.Prelude.{◌≡◌, ℕ, ◌+◌, Bool, ◌&&◌, List, [], ◌∷◌, ◌++◌, map, length, take, drop, nat_le, Ok, Err, Result}
use Rattle.rules.specs.Routine.{Routine}
use Rattle.rules.specs.Run.{Terms, Run, started, reply, after, replies, after_all}
use Rattle.rules.specs.Run.{Call as RulesCall, Answer as RulesAnswer}
use Rattle.rules.specs.Run.Call.{Advance, Feed, Ask}
use Rattle.rules.specs.Run.Answer.{Advanced, Granted, Told}
use Rattle.rules.specs.Run.Answer.{Refused as RefusedSo}
use Rattle.listing.specs.declared.parts.Listing.{Listing}
use Rattle.listing.specs.Forms.{routine_of}
use Rattle.run.specs.declared.memory.LeakLine.{LeakLine}
use Rattle.run.specs.declared.memory.Memory.{Memory}
use Rattle.run.specs.declared.faults.RunFault.{RunFault}
use Rattle.run.specs.Views.{of_memory, of_place, of_fault, leak_line}
use Rattle.run.specs.Runs.{advanced}
use Rattle.twin.specs.declared.call.Call.{Call}
use Rattle.twin.specs.declared.call.Call.TheVariants as call
use Rattle.twin.specs.declared.call.Reply.{Reply}
use Rattle.twin.specs.declared.call.Reply.TheVariants.{Stepped, Fed, Asked}

abbrev pub of_call : Call → RulesCall
of_call (call.Advance n) = Advance n
of_call (call.Feed p v) = Feed (of_place p) v
of_call (call.Ask p) = Ask (of_place p)

abbrev pub Answer : Type 0
Answer = Result Reply RunFault

-- An answer of the code, with what its call's own places hold, as the rules' answer: the lines below the count alone.
abbrev pub told : Answer → List LeakLine → RulesAnswer
told (Ok (Stepped a)) xs = advanced a xs
told (Ok Fed) xs = Granted
told (Ok (Asked v)) xs = Told v
told (Err f) xs = RefusedSo (of_fault f)

-- The places for leak lines that a call has.
abbrev pub places : Call → ℕ
places (call.Advance n) = n
places (call.Feed p v) = 0
places (call.Ask p) = 0

abbrev pub all_places : List Call → ℕ
all_places [] = 0
all_places (c ∷ cs) = places c + all_places cs

-- There is room for each answer and each leak line.
abbrev pub has_room : List Call → List Answer → List LeakLine → Bool
has_room cs said xs = nat_le (length cs) (length said) && nat_le (all_places cs) (length xs)

-- A log as the list of the rules' answers: each call has the next answer, and the next places for its own lines.
unfoldable pub heard : List Call → List Answer → List LeakLine → List RulesAnswer
heard [] said xs = []
heard (c ∷ cs) [] xs = []
heard (c ∷ cs) (a ∷ said) xs = told a (take (places c) xs) ∷ heard cs said (drop (places c) xs)

-- The leak lines of an answer, as they are written.
abbrev pub lines_in : RulesAnswer → List LeakLine
lines_in (Advanced n e ls) = map leak_line ls
lines_in Granted = []
lines_in (Told v) = []
lines_in (RefusedSo f) = []

-- What places hold once the first of them are overwritten.
abbrev pub overwritten : List LeakLine → List LeakLine → List LeakLine
overwritten xs before = xs ++ drop (length xs) before

-- The room for leak lines after a list of calls: each call overwrites the first of its own places with its lines.
unfoldable pub laid : Terms → List Call → Run → List LeakLine → List LeakLine
laid x [] s before = before
laid x (c ∷ cs) s before =
    overwritten (lines_in (reply x (of_call c) s)) (take (places c) before)
    ++ laid x cs (after x.routine (of_call c) s) (drop (places c) before)

-- Where a run stands after a list of calls.
abbrev pub last_state : Routine → List Call → Run → Run
last_state r cs s = after_all r (map of_call cs) s

-- What one run is given and writes: its memory and its calls, and the two rooms of its log, before the calls and after them.
pub record Journal : Type 0 where
  pub memory : Memory
  pub calls : List Call
  pub answers_before : List Answer
  pub answers : List Answer
  pub lines_before : List LeakLine
  pub lines : List LeakLine

abbrev pub journal : Memory → List Call → List Answer → List Answer → List LeakLine → List LeakLine → Journal
journal m cs answers_before answers lines_before lines =
    record { memory = m; calls = cs; answers_before = answers_before; answers = answers; lines_before = lines_before; lines = lines }

-- The run at its start, in the journal's memory.
abbrev pub start_of : Journal → Run
start_of j = started (of_memory j.memory)

-- Where the rules say that a run of a listing stands after the journal's calls.
abbrev pub stop_of : Listing → Journal → Run
stop_of l j = last_state (routine_of l) j.calls (start_of j)

-- There was room for the whole log.
abbrev pub room_in : Journal → Bool
room_in j = has_room j.calls j.answers_before j.lines_before

-- The log as the rules' answers.
abbrev pub heard_in : Journal → List RulesAnswer
heard_in j = heard j.calls j.answers j.lines

-- The two rooms hold what they held.
pub record Untouched (j : Journal) : Type 0 where
  pub answers : j.answers ≡ j.answers_before
  pub lines : j.lines ≡ j.lines_before

-- The log of a run that goes by these terms and stood at s: it reads as the rules' answers, and nothing else in the two rooms is changed.
pub record Logged (x : Terms) (s : Run) (j : Journal) : Type 0 where
  pub answered : heard_in j ≡ replies x (map of_call j.calls) s
  pub more_answers : drop (length j.calls) j.answers ≡ drop (length j.calls) j.answers_before
  pub lined : j.lines ≡ laid x j.calls s j.lines_before
