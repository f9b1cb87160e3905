-- Blanks, and numbers set right.
use Rattle.std.specs.Prelude.{ℕ, zero, suc, ◌-◌, List, [], ◌++◌, length, codes, decimal}

-- the text, n times
abbrev pub times : ℕ → List ℕ → List ℕ
times zero s = []
times (suc n) s = s ++ times n s

abbrev pub blanks : ℕ → List ℕ
blanks n = times n (codes " ")

-- the number, with blanks before it up to width w
abbrev pub set_right : ℕ → ℕ → List ℕ
set_right w n = blanks (w - length (decimal n)) ++ decimal n
