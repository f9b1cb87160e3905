-- What the program marks is given: level digits, a newline, and a listing.
use Rattle.std.specs.Prelude.{◌≡◌, ℕ, ◌<◌, ◌⊎◌, List, [], ◌∷◌, ◌++◌, length, ◌≢◌, slice_index}
use Rattle.verdict.specs.declared.slip.Slip.{Slip}
use Rattle.verdict.specs.Slips.{slip_text}
use Rattle.verdict.specs.Verdicts.{Judged}

-- No newline stands among the first n bytes of s.
abbrev pub NoNewline : List ℕ → ℕ → Type 0
NoNewline s n = (k : ℕ) → k < n → slice_index s k ≢ 10

-- The bytes s are the digits d up to the first newline and then the listing l; all of them are digits, if there is no newline.
pub record Parted (s d l : List ℕ) : Type 0 where
  pub no_newline : NoNewline d (length d)
  pub whole : (s ≡ d ++ (10 ∷ l)) ⊎ ((s ≡ d) × (l ≡ []))

-- The text is the slip of the verdict on the two parts of s.
pub record Marked (s text : List ℕ) : Type 0 where
  pub digits : List ℕ
  pub listing : List ℕ
  pub parted : Parted s digits listing
  pub slip : Slip
  pub judged : Judged digits listing slip
  pub text_is : text ≡ slip_text slip
