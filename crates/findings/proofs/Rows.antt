-- The rows of a way, one turn after another. Assumes nothing.
use Rattle.std.proofs.Common.{◌≡◌, ℕ, suc, ◌+◌, ◌-◌, ◌<◌, ◌++◌, ap, arith}
use Rattle.rules.specs.Routine.{Routine}
use Rattle.path.specs.declared.place.Path.{Path}
use Rattle.findings.specs.WayTexts.{step_row, steps_text}

pub way_step : (r : Routine) (x : Path) (n i : ℕ) → i < n → steps_text r x i (n - i) ≡ step_row r x i ++ steps_text r x (i + 1) (n - (i + 1))
way_step r x n i h = let e : n - i ≡ suc (n - (i + 1)) = omega arith in ap (steps_text r x i) e
