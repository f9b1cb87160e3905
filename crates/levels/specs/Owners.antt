-- Sets of owners, a bit for each, joined by union.
use Rattle.std.specs.Prelude.{ℕ, ◌^◌, ◌<◌, ◌==◌, bit_or}
use Rattle.std.proofs.lemmas.Nat.{or_lt}
use Rattle.std.proofs.Common.{lit<}
use Rattle.rules.specs.Order.{Order}
use Rattle.levels.specs.declared.owners.Owners.{Owners}

abbrev pub owners_of : (n : ℕ) → n < 2 ^ 16 → Owners
owners_of n h = record { set = n; within = h }

abbrev pub owners_order : Order Owners
owners_order =
    record {
      least = owners_of 0 (lit< tt);
      join = λ a b. owners_of (bit_or a.set b.set) (or_lt 16 a.set b.set a.within b.within);
      flows = λ a b. (bit_or a.set b.set == b.set);
    }
