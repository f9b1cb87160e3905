-- A listing by its scalars, arrays and nodes.
use Rattle.std.specs.Prelude.{ℕ, ◌-◌, List, [], ◌∷◌, ◌++◌, length, replicate}
use Rattle.rules.specs.declared.Node.{Node}
use Rattle.rules.specs.declared.Node.TheVariants.{Constant}
use Rattle.rules.specs.declared.Region.{Region}
use Rattle.listing.specs.declared.parts.Listing.{Listing}
use Rattle.listing.specs.Forms.{no_region}

-- one array, by its first cell and its length
abbrev pub cells : ℕ → ℕ → List Region
cells start length = record { start = start; length = length } ∷ []

-- the listing of s scalars, these arrays and these nodes
abbrev pub listed : ℕ → List Region → List Node → Listing
listed s gs ns =
    record {
      counts = record { scalars = s; arrays = length gs; nodes = length ns };
      regions = gs ++ replicate (8 - length gs) no_region;
      nodes = ns ++ replicate (128 - length ns) (Constant 0 0);
    }
