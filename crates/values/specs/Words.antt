-- The lines of a text, and the words of a line.
use Rattle.std.specs.Prelude.{ℕ, Bool, cond, not, ◌||◌, List, [], ◌∷◌, take, drop, ◌==◌}
use Rattle.std.specs.List.{position_or_len, onto_first}

-- A blank or a tab.
abbrev pub is_blank : ℕ → Bool
is_blank b = b == 32 || b == 9

-- A word goes up to a blank or a comment, which begins with byte 35.
abbrev pub ends_word : ℕ → Bool
ends_word b = is_blank b || b == 35

abbrev pub past_blanks : List ℕ → List ℕ
past_blanks s = drop (position_or_len (λ b. not (is_blank b)) s) s

-- The first word of a line; [] if there is none.
abbrev pub first_word : List ℕ → List ℕ
first_word s = take (position_or_len ends_word (past_blanks s)) (past_blanks s)

-- What follows the first word.
abbrev pub after_word : List ℕ → List ℕ
after_word s = drop (position_or_len ends_word (past_blanks s)) (past_blanks s)

-- The lines of a text, without their newlines.
abbrev pub lines_of : List ℕ → List (List ℕ)
lines_of [] = []
lines_of (b ∷ bs) = cond (b == 10) ([] ∷ lines_of bs) (onto_first b (lines_of bs))
