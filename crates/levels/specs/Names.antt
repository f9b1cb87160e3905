-- The names in a set.
use Rattle.std.specs.Prelude.{◌≡◌, ℕ, ◌/◌, ◌%◌, ◌^◌, ◌<◌, Bool, Some, None, Option, ◌==◌}
use Rattle.levels.specs.declared.name_set.NameSet.{NameSet}

-- 1 if bit k of x stands, else 0
unfoldable pub bit : ℕ → ℕ → ℕ
bit x k = x / 2 ^ k % 2

-- The name k is in the set.
abbrev pub Has : NameSet → ℕ → Type 0
Has s k = bit s.bits k ≡ 1

-- The same, as a test.
abbrev pub has : NameSet → ℕ → Bool
has s k = bit s.bits k == 1

-- The set that has no name.
abbrev pub no_names : NameSet
no_names = record { bits = 0 }

-- The lowest name of a set, if it has one.
abbrev pub Lowest : NameSet → Option ℕ → Type 0
Lowest s None = (k : ℕ) → Has s k → ⊥
Lowest s (Some n) = (n < 32) × Has s n × ((k : ℕ) → k < n → Has s k → ⊥)
