-- The sizes of a cache line.
use Rattle.std.specs.Prelude.{ℕ}
use Rattle.leakage.specs.declared.cache_line.CacheLine.{CacheLine}
use Rattle.leakage.specs.declared.cache_line.CacheLine.TheVariants.{Sixteen, Eight}

-- the number of cells of a line
abbrev pub line_cells : CacheLine → ℕ
line_cells Sixteen = 16
line_cells Eight = 8
