-- Bytes of a listing, shown so that each can be seen.
use Rattle.std.specs.Prelude.{ℕ, ◌+◌, ◌/◌, ◌%◌, cond, List, [], ◌∷◌, ◌++◌, ◌==◌, nat_le, nat_lt}

-- 0 to 9, then a to f
abbrev pub hex : ℕ → ℕ
hex d = cond (nat_lt d 10) (48 + d) (87 + d)

-- a backslash, an x and two digits
abbrev pub by_digits : ℕ → List ℕ
by_digits b = 92 ∷ 120 ∷ hex (b / 16) ∷ hex (b % 16) ∷ []

-- a tab, a newline, a carriage return and a backslash by a letter; any other byte that cannot be seen by its digits
abbrev pub escaped : ℕ → List ℕ
escaped b =
    cond (b == 9) (92 ∷ 116 ∷ [])
    (cond (b == 10) (92 ∷ 110 ∷ [])
    (cond (b == 13) (92 ∷ 114 ∷ [])
    (cond (b == 92) (92 ∷ 92 ∷ [])
    (cond (nat_le 32 b) (cond (nat_le b 126) (b ∷ []) (by_digits b)) (by_digits b)))))

abbrev pub escaped_text : List ℕ → List ℕ
escaped_text [] = []
escaped_text (b ∷ bs) = escaped b ++ escaped_text bs
