-- What a text of values gives to a routine's scalars and arrays.
use Rattle.std.specs.Prelude.{ℕ, ◌+◌, cond, List, [], ◌∷◌, map, replicate, Option, Some, None, is_some, unwrap_or, Ok, Err, Result, nat_le, slice_index_or, slice_set}
use Rattle.rules.specs.Routine.{region}
use Rattle.listing.specs.declared.parts.Listing.{Listing}
use Rattle.listing.specs.Forms.{routine_of}
use Rattle.run.specs.declared.memory.Memory.{Memory}
use Rattle.values.specs.declared.draft.Draft.{Draft}
use Rattle.values.specs.declared.entry.Entry.{Entry}
use Rattle.values.specs.declared.entry.Entry.TheVariants as entry
use Rattle.values.specs.declared.faults.Reason.{Reason}
use Rattle.values.specs.declared.faults.Reason.TheVariants.{NoScalar, NoArray, NoElement, GivenTwice}
use Rattle.values.specs.declared.faults.ValuesFault.{ValuesFault}
use Rattle.values.specs.Words.{lines_of}
use Rattle.values.specs.Entries.{and_then, entry_of}

-- Nothing is given.
abbrev pub empty_draft : Draft
empty_draft = record { scalars = replicate 24 None; cells = replicate 512 None }

-- Gives place k the value v, once.
abbrev pub put_once : ℕ → ℕ → List (Option ℕ) → Result (List (Option ℕ)) Reason
put_once k v vs = cond (is_some (slice_index_or vs k None)) (Err GivenTwice) (Ok (slice_set vs k (Some v)))

-- The draft with other scalars or other cells, unless they are refused.
abbrev pub with_scalars : Draft → Result (List (Option ℕ)) Reason → Result Draft Reason
with_scalars d r = and_then r (λ vs. Ok (record { scalars = vs; cells = d.cells }))

abbrev pub with_cells : Draft → Result (List (Option ℕ)) Reason → Result Draft Reason
with_cells d r = and_then r (λ vs. Ok (record { scalars = d.scalars; cells = vs }))

-- Gives a place of the routine its value.
abbrev pub put : Listing → Entry → Draft → Result Draft Reason
put t (entry.Scalar k v) d = cond (nat_le t.counts.scalars k) (Err NoScalar) (with_scalars d (put_once k v d.scalars))
put t (entry.Element j i v) d =
    cond (nat_le t.counts.arrays j) (Err NoArray)
    (cond (nat_le (region (routine_of t) j).length i) (Err NoElement)
    (with_cells d (put_once ((region (routine_of t) j).start + i) v d.cells)))

-- A line that says nothing leaves the draft as it is.
abbrev pub put_said : Listing → Option Entry → Draft → Result Draft Reason
put_said t (Some e) d = put t e d
put_said t None d = Ok d

-- Does what a line says.
abbrev pub put_line : Listing → List ℕ → Draft → Result Draft Reason
put_line t l d = and_then (entry_of l) (λ said. put_said t said d)

-- The values, and 0 where none is given.
abbrev pub memory_of : Draft → Memory
memory_of d = record { scalars = map (λ v. unwrap_or v 0) d.scalars; cells = map (λ v. unwrap_or v 0) d.cells }

-- What a call answered, with what it left.
abbrev pub outcome : {A : Type 0} → Result (Unit {0}) Reason → A → Result A Reason
outcome (Ok _) d = Ok d
outcome (Err e) d = Err e

-- A refusal stands with the number of its line.
abbrev pub at_line : ℕ → Result Draft Reason → (Draft → Result Memory ValuesFault) → Result Memory ValuesFault
at_line n (Ok d) f = f d
at_line n (Err e) f = Err (record { line = n; reason = e })

-- The lines after the first n, in their order.
abbrev pub values_from : Listing → ℕ → List (List ℕ) → Draft → Result Memory ValuesFault
values_from t n [] d = Ok (memory_of d)
values_from t n (l ∷ ls) d = at_line (n + 1) (put_line t l d) (λ e. values_from t (n + 1) ls e)

abbrev pub values_of : Listing → List ℕ → Result Memory ValuesFault
values_of t s = values_from t 0 (lines_of s) empty_draft
