-- One row put into another.
use Rattle.std.specs.Prelude.{◌≡◌, ℕ, ◌-◌, ◌^◌, ◌<◌, Bool, true, false, ◌⊎◌, ◌↔◌, List, sum_by, slice_index_or}
use Rattle.levels.specs.Names.{Has, no_names}
use Rattle.levels.specs.declared.name_set.NameSet.{NameSet}

-- How far a row is from full.
abbrev pub space : List NameSet → ℕ
space sets = sum_by (λ s. 2 ^ 32 - s.bits) sets

-- `new` is `old` with the names of `from` put in, and `grew` tells whether there were new ones.
pub record Joined (old from new : List NameSet) (grew : Bool) : Type 0 where
  pub joins : (k name : ℕ) → (Has (slice_index_or new k no_names) name ↔ (Has (slice_index_or old k no_names) name ⊎ Has (slice_index_or from k no_names) name))
  pub same : grew ≡ false → new ≡ old
  pub falls : grew ≡ true → space new < space old
