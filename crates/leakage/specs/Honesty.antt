-- A cache line of either size keeps its promise.
use Rattle.rules.specs.Leakage.{Honest}
use Rattle.rules.specs.Standing.{cache_line}
use Rattle.rules.proofs.Standing.{line_honest}
use Rattle.leakage.specs.Lines.{line_cells}
use Rattle.leakage.specs.declared.cache_line.CacheLine.{CacheLine}

pub cache_line_honest : (line : CacheLine) → Honest (cache_line (line_cells line))
cache_line_honest line = line_honest (line_cells line)
