-- Pairs over any two orders, half by half.
use Rattle.std.specs.Prelude.{◌&&◌}
use Rattle.rules.specs.Order.{Order}
use Rattle.levels.specs.declared.pair.Pair.{Pair}

abbrev pub pair_order : {A B : Type 0} → Order A → Order B → Order (Pair A B)
pair_order o p =
    record {
      least = record { first = o.least; second = p.least };
      join = λ x y. record { first = o.join x.first y.first; second = p.join x.second y.second };
      flows = λ x y. o.flows x.first y.first && p.flows x.second y.second;
    }
