-- What a node passes on of the names that reach the scalars before it.
use Rattle.std.specs.Prelude.{◌≡◌, ℕ, ◌+◌, true, false, ◌⊎◌}
use Rattle.rules.specs.declared.Node.{Node}
use Rattle.rules.specs.Routine.{sets, Reads, ReadsArray}

-- The names that a node's target gets: of the scalars read, and of the array.
abbrev pub Inflow : ℕ → Node → (ℕ → Type 0) → ℕ → Type 0
Inflow s n X name = ((k : ℕ) × Reads n k × X k) ⊎ ((t : ℕ) × ReadsArray n t × (name ≡ s + t))

-- A name reaches scalar d behind the node, if X says which scalars it reaches before the node.
abbrev pub Flow : ℕ → Node → (ℕ → Type 0) → ℕ → ℕ → Type 0
Flow s n X name d = ((sets n d ≡ false) × X d) ⊎ ((sets n d ≡ true) × Inflow s n X name)
