-- How a start name comes to a place first.
use Rattle.std.proofs.Common.{◌≡◌, ℕ, ◌<◌, ◌≤◌, Some, None, Option, MatchOption, arith}
use Rattle.std.specs.Option.{option_map}
use Rattle.rules.specs.Routine.{Routine, node, end}
use Rattle.path.specs.declared.place.Place.{Place}
use Rattle.path.specs.declared.place.Origin.{Origin}
use Rattle.path.specs.declared.place.Origin.TheVariants.{Start, Read}
use Rattle.path.specs.Ways.{ReadsName, Begins, OriginAnswer}

module _ (r : Routine) (m : ℕ) (a : Place) where
  abbrev Reading : ℕ → Type 0
  Reading p = ReadsName (node r p) p r.scalars m a

  pub origin_told : (n : ℕ) (o : Option ℕ) → n ≡ end r → (Begins r m a Start → ⊥)
      → MatchOption o ((k : ℕ) → 0 ≤ k → k < n → Reading k → ⊥) (λ i. (0 ≤ i) × (i < n) × Reading i × ((k : ℕ) → 0 ≤ k → k < i → Reading k → ⊥))
      → OriginAnswer r m a (option_map Read o)
  origin_told n None e unstarted h = none
    where
      none : (o : Origin) → Begins r m a o → ⊥
      none Start b = unstarted b
      none (Read p) b = h p (omega arith) (omega (arith, e, b.0)) b.1
  origin_told n (Some i) e unstarted h = (omega (arith, e, h.1), h.2)
