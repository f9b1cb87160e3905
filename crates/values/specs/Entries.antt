-- What one line of values says.
use Rattle.std.specs.Prelude.{ℕ, cond, List, length, Some, None, Ok, Err, codes, Option, Result, ◌==◌}
use Rattle.std.specs.Str.{bytes_eq}
use Rattle.columns.specs.Numbers.{column_value}
use Rattle.values.specs.declared.entry.Entry.{Entry}
use Rattle.values.specs.declared.entry.Entry.TheVariants as entry
use Rattle.values.specs.declared.faults.Reason.{Reason}
use Rattle.values.specs.declared.faults.Reason.TheVariants.{UnknownWord, TooFewWords, TooManyWords, NoNumber}
use Rattle.values.specs.Words.{first_word, after_word}

-- One answer after another: the first refusal stands.
abbrev pub and_then : {A B : Type 0} → Result A Reason → (A → Result B Reason) → Result B Reason
and_then (Ok a) f = f a
and_then (Err e) f = Err e

-- A word as a number: decimal, at most 4294967295, without leading zeros.
abbrev pub number_or : Option ℕ → Result ℕ Reason
number_or (Some n) = Ok n
number_or None = Err NoNumber

-- The number that is the first word.
abbrev pub number_in : List ℕ → Result ℕ Reason
number_in s = cond (length (first_word s) == 0) (Err TooFewWords) (number_or (column_value (first_word s)))

-- The entry, if no word follows.
abbrev pub ended : List ℕ → Entry → Result (Option Entry) Reason
ended s e = cond (length (first_word s) == 0) (Ok (Some e)) (Err TooManyWords)

-- scalar K V
abbrev pub scalar_entry : List ℕ → Result (Option Entry) Reason
scalar_entry s =
    and_then (number_in s) (λ k. and_then (number_in (after_word s)) (λ v. ended (after_word (after_word s)) (entry.Scalar k v)))

-- array J I V
abbrev pub element_entry : List ℕ → Result (Option Entry) Reason
element_entry s =
    and_then (number_in s)
    (λ j. and_then (number_in (after_word s))
    (λ i. and_then (number_in (after_word (after_word s)))
    (λ v. ended (after_word (after_word (after_word s))) (entry.Element j i v))))

-- What a line says; None, if it has no word.
abbrev pub entry_of : List ℕ → Result (Option Entry) Reason
entry_of s =
    cond (length (first_word s) == 0) (Ok None)
    (cond (bytes_eq (first_word s) (codes "scalar")) (scalar_entry (after_word s))
    (cond (bytes_eq (first_word s) (codes "array")) (element_entry (after_word s)) (Err UnknownWord)))
