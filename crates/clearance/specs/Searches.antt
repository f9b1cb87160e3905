-- What is searched for a leak.
use Rattle.rules.specs.Order.{Order}
use Rattle.rules.specs.Leakage.{Leakage}
use Rattle.clearance.specs.declared.search.Search.{Search}
use Rattle.clearance.specs.Scenes.{Scene, scene, Ready}

-- The scene of a search, where w tells what each model means.
abbrev pub searched : {L M : Type 0} → Order L → (M → Leakage) → Search L M → Scene L
searched o w s = scene o (w s.model) s.routine.now.listing s.levels.now s.listener

-- The table and the set of a search are those of its scene.
abbrev pub Prepared : {L M : Type 0} → Order L → (M → Leakage) → Search L M → Type 0
Prepared o w s = Ready (searched o w s) s.table.now s.heard
