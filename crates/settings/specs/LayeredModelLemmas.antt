use Rattle.std.specs.Prelude.{Bool, true, false}
use Rattle.rules.specs.Leakage.{Leakage, Honest}
use Rattle.leakage.specs.Lines.{line_cells}
use Rattle.rules.proofs.Standing.{counter_honest, baseline_honest, line_honest, time_honest}
use Rattle.settings.specs.declared.model.Base.{Base}
use Rattle.settings.specs.declared.model.Base.TheVariants.{Counter, Cells, Lines}
use Rattle.settings.specs.Models.{base_leakage, layered}

pub base_honest : (b : Base) → Honest (base_leakage b)
base_honest Counter = counter_honest
base_honest Cells = baseline_honest
base_honest (Lines l) = line_honest (line_cells l)

pub layered_honest : (t : Bool) (l : Leakage) → Honest l → Honest (layered t l)
layered_honest true l h = time_honest l h
layered_honest false l h = h
