-- A log that is overwritten by the rules is read as the rules' answers.
use Rattle.std.proofs.Common.{◌≡◌, ℕ, suc, ◌≤◌, Bool, true, false, cond, eqb, ltb, leb, List, [], ◌∷◌, ◌++◌, map, length, take, drop, refl, ap, ◌∙◌, ap₂, arith, length-append, length-drop}
use Rattle.std.proofs.lemmas.Bool.{and_parts, leb-true}
use Rattle.std.proofs.lemmas.List.{take_at, drop_at, length-take-le, length-map}
use Rattle.rules.specs.Routine.{Routine, arrays, region, end}
use Rattle.rules.specs.Run.{Terms, Line, Run, Name, reply, replies, after, lines_of, run_of, unless_missing, is_open, value_at, no_array, no_element, no_scalar, shut}
use Rattle.rules.specs.Run.Name.{Scalar, Element}
use Rattle.rules.specs.Run.{Answer as RulesAnswer}
use Rattle.rules.specs.Run.Answer.{Advanced, Granted, Told}
use Rattle.rules.specs.Run.Answer.{Refused as RefusedSo}
use Rattle.rules.proofs.Advancing.{advances}
use Rattle.run.specs.declared.memory.LeakLine.{LeakLine}
use Rattle.run.specs.declared.memory.Memory.{Memory}
use Rattle.twin.specs.declared.call.Call.{Call}
use Rattle.twin.specs.declared.call.Call.TheVariants.{Advance, Feed, Ask}
use Rattle.run.specs.Views.{of_line, of_place, leak_line}
use Rattle.twin.specs.Logs.{Answer, of_call, told, lines_in, overwritten, laid, places, all_places, heard, has_room, journal, Logged}
use Rattle.twin.proofs.Along.{said_as, sayings, trace_of, Along, all_answered, all_laid}

-- An answer without lines is read back as it was.
abbrev Back : RulesAnswer → Type 0
Back a = (xs : List LeakLine) → told (said_as a) xs ≡ a

back_cond : (b : Bool) (a d : RulesAnswer) → Back a → Back d → Back (cond b a d)
back_cond true a d f g = f
back_cond false a d f g = g

back_missing : (r : Routine) (n : Name) (a : RulesAnswer) → Back a → Back (unless_missing r n a)
back_missing r (Scalar k) a f = back_cond (ltb k r.scalars) a (RefusedSo no_scalar) f (λ xs. refl)
back_missing r (Element t i) a f =
    back_cond (ltb t (arrays r)) (cond (ltb i (region r t).length) a (RefusedSo no_element)) (RefusedSo no_array)
    (back_cond (ltb i (region r t).length) a (RefusedSo no_element) f (λ xs. refl))
    (λ xs. refl)

lines_there : (ls : List Line) → map of_line (map leak_line ls) ≡ ls
lines_there [] = refl
lines_there (y ∷ ys) = ap (λ zs. y ∷ zs) (lines_there ys)

read_back : (x : Terms) (c : Call) (s : Run) (held : List LeakLine) → told (said_as (reply x (of_call c) s)) (overwritten (trace_of x c s) held) ≡ reply x (of_call c) s
read_back x (Advance n) s held =
    let ls = lines_of x.model x.routine n s in
    ap (λ ys. Advanced (length ls) (eqb (run_of x.routine n s).point (end x.routine)) (map of_line ys))
    (take_at (map leak_line ls) (drop (length (map leak_line ls)) held) (length ls) (length-map ls leak_line))
    ∙ ap (Advanced (length ls) (eqb (run_of x.routine n s).point (end x.routine))) (lines_there ls)
read_back x (Feed p v) s held = back_missing x.routine (of_place p) Granted (λ xs. refl) _
read_back x (Ask p) s held =
    back_missing x.routine (of_place p) (cond (is_open x s.point (of_place p)) (Told (value_at x.routine (of_place p) s.memory)) (RefusedSo shut))
    (back_cond (is_open x s.point (of_place p)) _ (RefusedSo shut) (λ xs. refl) (λ xs. refl)) _

-- An answer without lines has none.
no_lines_cond : (b : Bool) (a d : RulesAnswer) → length (lines_in a) ≤ 0 → length (lines_in d) ≤ 0 → length (lines_in (cond b a d)) ≤ 0
no_lines_cond true a d f g = f
no_lines_cond false a d f g = g

no_lines : (r : Routine) (n : Name) (a : RulesAnswer) → length (lines_in a) ≤ 0 → length (lines_in (unless_missing r n a)) ≤ 0
no_lines r (Scalar k) a f = no_lines_cond (ltb k r.scalars) a (RefusedSo no_scalar) f (omega arith)
no_lines r (Element t i) a f =
    no_lines_cond (ltb t (arrays r)) (cond (ltb i (region r t).length) a (RefusedSo no_element)) (RefusedSo no_array)
    (no_lines_cond (ltb i (region r t).length) a (RefusedSo no_element) f (omega arith))
    (omega arith)

few_lines : (x : Terms) (c : Call) (s : Run) → length (trace_of x c s) ≤ places c
few_lines x (Advance n) s = let h = (advances x.model x.routine s).lines_fit n in omega (arith, length-map (lines_of x.model x.routine n s) leak_line, h)
few_lines x (Feed p v) s = no_lines x.routine (of_place p) Granted (omega arith)
few_lines x (Ask p) s =
    no_lines x.routine (of_place p) (cond (is_open x s.point (of_place p)) (Told (value_at x.routine (of_place p) s.memory)) (RefusedSo shut))
    (no_lines_cond (is_open x s.point (of_place p)) (Told (value_at x.routine (of_place p) s.memory)) (RefusedSo shut) (omega arith) (omega arith))

written_length : (xs held : List LeakLine) → length xs ≤ length held → length (overwritten xs held) ≡ length held
written_length xs held h = length-append xs (drop (length xs) held) ∙ omega (arith, length-drop (length xs) held)

pub heard_all : (x : Terms) (cs : List Call) (s : Run) (rest : List Answer) (held : List LeakLine) → all_places cs ≤ length held → heard cs (sayings x cs s ++ rest) (laid x cs s held) ≡ replies x (map of_call cs) s
unfolding heard sayings laid
heard_all x [] s rest held h = refl
heard_all x (c ∷ cs) s rest held h =
    let own = take (places c) held in
    let own_is : length own ≡ places c = length-take-le (places c) held (omega arith) in
    let w = overwritten (trace_of x c s) own in
    let more = laid x cs (after x.routine (of_call c) s) (drop (places c) held) in
    let long : length w ≡ places c = written_length (trace_of x c s) own (omega (arith, own_is, few_lines x c s)) ∙ own_is in
    let left : all_places cs ≤ length (drop (places c) held) = omega (arith, length-drop (places c) held) in
    ap₂ ◌∷◌
    (ap (told (said_as (reply x (of_call c) s))) (take_at w more (places c) long) ∙ read_back x c s own)
    (ap (heard cs (sayings x cs (after x.routine (of_call c) s) ++ rest)) (drop_at w more (places c) long)
    ∙ heard_all x cs (after x.routine (of_call c) s) rest (drop (places c) held) left)

pub rooms : (cs : List Call) (said : List Answer) (lines : List LeakLine) → has_room cs said lines ≡ true → (length cs ≤ length said) × (all_places cs ≤ length lines)
rooms cs said lines h =
    let b = and_parts (leb (length cs) (length said)) (leb (all_places cs) (length lines)) h in
    (leb-true _ _ b.0, leb-true _ _ b.1)

long_sayings : (x : Terms) (cs : List Call) (s : Run) → length (sayings x cs s) ≡ length cs
unfolding sayings
long_sayings x [] s = refl
long_sayings x (c ∷ cs) s = ap suc (long_sayings x cs (after x.routine (of_call c) s))

-- What a list of calls has done once all are made.
pub all_logged :
    (x : Terms) (m : Memory) (cs : List Call) (s₀ : Run) (room : List Answer) (held : List LeakLine) (i used : ℕ) (said : List Answer) (lines : List LeakLine) (s : Run)
    → Along x cs s₀ room held i used said lines s
    → i ≡ length cs
    → all_places cs ≤ length held
    → Logged x s₀ (journal m cs room said held lines)
all_logged x m cs s₀ room held i used said lines s p h fits =
    let a : said ≡ sayings x cs s₀ ++ drop (length cs) room = all_answered x cs s₀ room held i used said lines s p h in
    let l : lines ≡ laid x cs s₀ held = all_laid x cs s₀ room held i used said lines s p h in
    record {
      answered = ap₂ (heard cs) a l ∙ heard_all x cs s₀ (drop (length cs) room) held fits;
      more_answers = ap (drop (length cs)) a ∙ drop_at (sayings x cs s₀) (drop (length cs) room) (length cs) (long_sayings x cs s₀);
      lined = l;
    }
