-- What is examined.
use Rattle.std.specs.Prelude.{◌≡◌, ◌+◌, List, length}
use Rattle.levels.specs.declared.name_set.NameSet.{NameSet}
use Rattle.levels.specs.Tables.{start_level, FlowTo}
use Rattle.listing.specs.declared.parts.Listing.{Listing}
use Rattle.listing.specs.Forms.{routine_of}
use Rattle.reach.specs.declared.table.ReachTable.{ReachTable}
use Rattle.reach.specs.Table.{TellsReach}
use Rattle.rules.specs.Order.{Order}
use Rattle.rules.specs.Leakage.{Leakage}
use Rattle.rules.specs.Clearance.{Labelled, Setting}

-- A listing under a leakage model, with a table of start levels and the listener's level, in an order.
pub record Scene (L : Type 0) : Type 0 where
  pub order : Order L
  pub model : Leakage
  pub listing : Listing
  pub levels : List L
  pub listener : L

abbrev pub scene : {L : Type 0} → Order L → Leakage → Listing → List L → L → Scene L
scene o m l levels listener = record { order = o; model = m; listing = l; levels = levels; listener = listener }

-- A listing's routine, with the levels of a table.
abbrev pub labelled_by : {L : Type 0} → Order L → Listing → List L → Labelled L
labelled_by o l levels = record { order = o; routine = routine_of l; level = start_level o levels }

module _ {L : Type 0} (x : Scene L) where
  -- The setting that the rules speak of.
  abbrev pub setting : Setting L
  setting = record { labelled = labelled_by x.order x.listing x.levels; model = x.model; listener = x.listener }

  -- The table has one level for each scalar and each array.
  abbrev pub Fitting : Type 0
  Fitting = length x.levels ≡ x.listing.counts.scalars + x.listing.counts.arrays

  -- What the search is given: the table fits, another tells what reaches, and a set has the names that flow to the listener.
  pub record Ready (t : ReachTable) (heard : NameSet) : Type 0 where
    pub fits : Fitting
    pub reach : TellsReach (routine_of x.listing) t
    pub flow : FlowTo x.order x.levels x.listener heard
