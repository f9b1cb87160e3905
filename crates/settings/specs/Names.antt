-- The names of levels.
use Rattle.std.specs.Prelude.{ℕ, zero, suc, ◌+◌, ◌/◌, ◌%◌, Bool, true, false, cond, List, [], ◌++◌, codes, decimal, ◌==◌}
use Rattle.levels.specs.declared.owners.Owners.{Owners}
use Rattle.levels.specs.declared.secrecy.Secrecy.{Secrecy}
use Rattle.levels.specs.declared.secrecy.Secrecy.TheVariants.{Public, Secret}

abbrev pub secrecy_name : Secrecy → List ℕ
secrecy_name Public = codes "public"
secrecy_name Secret = codes "secret"

-- nothing before the first
abbrev pub separator : Bool → List ℕ
separator true = []
separator false = codes ", "

-- the numbers of n owners from k on that are in the set, whose lowest bit is owner k's
abbrev pub owner_numbers : Bool → ℕ → ℕ → ℕ → List ℕ
owner_numbers first s k zero = []
owner_numbers first s k (suc n) =
    cond (s % 2 == 1) ((separator first ++ decimal k) ++ owner_numbers false (s / 2) (k + 1) n)
    (owner_numbers first (s / 2) (k + 1) n)

-- those of all 16
unfoldable pub all_numbers : ℕ → List ℕ
all_numbers s = owner_numbers true s 0 16

abbrev pub owner_name : Owners → List ℕ
owner_name o = codes "{" ++ (all_numbers o.set ++ codes "}")

-- the two orders in words
abbrev pub secrecy_told : List ℕ
secrecy_told = codes "two levels, public below secret"

abbrev pub owners_told : List ℕ
owners_told = codes "sets of owners, each below the sets that contain it"
