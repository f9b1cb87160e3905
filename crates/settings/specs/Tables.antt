-- Tables of levels, as a word of the call says them.
use Rattle.std.specs.Prelude.{ℕ, ◌+◌, ◌-◌, ◌*◌, cond, List, [], ◌∷◌, Some, None, codes, Option, ◌==◌, nat_lt}
use Rattle.levels.specs.declared.owners.Owners.{Owners}
use Rattle.levels.specs.declared.secrecy.Secrecy.{Secrecy}
use Rattle.levels.specs.Secrecy.{secrecy_of}

-- an item before a list, if both are there
abbrev pub put_first : {A : Type 0} → Option A → Option (List A) → Option (List A)
put_first None l = None
put_first (Some a) None = None
put_first (Some a) (Some l) = Some (a ∷ l)

abbrev pub two_levels_of : List ℕ → Option (List Secrecy)
two_levels_of [] = Some []
two_levels_of (b ∷ bs) = put_first (secrecy_of b) (two_levels_of bs)

abbrev pub code_so_far : Option ℕ → ℕ
code_so_far None = 0
code_so_far (Some n) = n

-- the code with one more digit; none where the byte is no digit or the code passes 65535
abbrev pub more_digits : Option ℕ → ℕ → Option ℕ
more_digits c b =
    cond (nat_lt b 48) None
    (cond (nat_lt 57 b) None
    (cond (nat_lt 65535 (code_so_far c * 10 + (b - 48))) None (Some (code_so_far c * 10 + (b - 48)))))

abbrev pub if_some : {A B : Type 0} → Option A → Option B → Option B
if_some None r = None
if_some (Some a) r = r

-- the codes of the bytes, which follow the digits of c, if any: a comma ends a code
abbrev pub codes_after : Option ℕ → List ℕ → Option (List ℕ)
codes_after c [] = put_first c (Some [])
codes_after c (b ∷ bs) =
    cond (b == 44) (put_first c (codes_after None bs)) (if_some (more_digits c b) (codes_after (more_digits c b) bs))

abbrev pub owner_codes_of : List ℕ → Option (List ℕ)
owner_codes_of [] = Some []
owner_codes_of (b ∷ bs) = codes_after None (b ∷ bs)

-- the code of each set
abbrev pub codes_of : List Owners → List ℕ
codes_of [] = []
codes_of (o ∷ os) = o.set ∷ codes_of os

-- what a word with a table has, in words
abbrev pub secrecy_wanted : List ℕ
secrecy_wanted = codes "digits 0 (public) and 1 (secret)"

abbrev pub owners_wanted : List ℕ
owners_wanted = codes "codes from 0 to 65535, with commas between them"
