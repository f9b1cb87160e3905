-- The sets of owners keep the laws. Assumes nothing.
use Rattle.std.specs.Prelude.{◌≡◌, ◌^◌, ◌<◌, bit_or, refl}
use Rattle.std.proofs.Common.{ap}
use mathlib.Core.HLevel.{is_prop→PathP}
use Rattle.std.proofs.Math.Bridge.{le_prop}
use Rattle.std.proofs.lemmas.Nat.{or_comm}
use Rattle.std.specs.Int.Bits.{or_self}
use Rattle.std.proofs.lemmas.Bool.{eqb-true, eq-eqb}
use Rattle.rules.specs.Order.{Lawful}
use Rattle.levels.specs.Owners.{owners_order}
use Rattle.levels.specs.declared.owners.Owners.{Owners}
use Rattle.rules.proofs.Standing.{or_assoc}

-- a set of owners is its number
pub same_owners : (a b : Owners) → a.set ≡ b.set → a ≡ b
same_owners a b e =
    λ i. record { set = e i; within = is_prop→PathP (λ j. e j < 2 ^ 16) (λ j. le_prop) a.within b.within i }

pub owners_lawful : Lawful owners_order
owners_lawful = record {
  associative = λ a b c. same_owners _ _ (or_assoc a.set b.set c.set);
  commutative = λ a b. same_owners _ _ (or_comm a.set b.set);
  idempotent = λ a. same_owners _ _ (or_self a.set);
  with_least = λ a. same_owners _ _ refl;
  join_of_flow = λ a b h. same_owners _ _ (eqb-true (bit_or a.set b.set) b.set h);
  flow_of_join = λ a b h. eq-eqb (bit_or a.set b.set) b.set (ap (λ (x : Owners). x.set) h);
}
