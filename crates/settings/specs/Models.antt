-- The standing models by their names, and in words.
use Rattle.std.specs.Prelude.{ℕ, Bool, true, false, cond, List, [], ◌++◌, Some, None, codes, Option}
use Rattle.std.specs.Str.{bytes_eq}
use Rattle.rules.specs.Leakage.{Leakage}
use Rattle.leakage.specs.Lines.{line_cells}
use Rattle.leakage.specs.declared.cache_line.CacheLine.TheVariants.{Sixteen, Eight}
use Rattle.rules.specs.Standing.{program_counter, baseline, cache_line, time_variable}
use Rattle.settings.specs.declared.model.Base.{Base}
use Rattle.settings.specs.declared.model.Base.TheVariants.{Counter, Cells, Lines}
use Rattle.settings.specs.declared.model.Layered.{Layered}

abbrev pub base_leakage : Base → Leakage
base_leakage Counter = program_counter
base_leakage Cells = baseline
base_leakage (Lines l) = cache_line (line_cells l)

-- with the time-variable layer, or without
abbrev pub layered : Bool → Leakage → Leakage
layered true l = time_variable l
layered false l = l

abbrev pub plain : Base → Layered
plain b = record { base = b; timed = false }

abbrev pub timed : Base → Layered
timed b = record { base = b; timed = true }

-- the model that a word names
abbrev pub model_named : List ℕ → Option Layered
model_named s =
    cond (bytes_eq s (codes "pc")) (Some (plain Counter))
    (cond (bytes_eq s (codes "baseline")) (Some (plain Cells))
    (cond (bytes_eq s (codes "line16")) (Some (plain (Lines Sixteen)))
    (cond (bytes_eq s (codes "line8")) (Some (plain (Lines Eight)))
    (cond (bytes_eq s (codes "tv+pc")) (Some (timed Counter))
    (cond (bytes_eq s (codes "tv+baseline")) (Some (timed Cells))
    (cond (bytes_eq s (codes "tv+line16")) (Some (timed (Lines Sixteen)))
    (cond (bytes_eq s (codes "tv+line8")) (Some (timed (Lines Eight))) None)))))))

-- what is heard
abbrev pub base_words : Base → List ℕ
base_words Counter = codes "program counter: which way each if and while goes"
base_words Cells = codes "baseline: which way each if and while goes, and the cell of each access"
base_words (Lines Sixteen) = codes "cache line of 16 cells: which way each if and while goes, and the line of each access"
base_words (Lines Eight) = codes "cache line of 8 cells: which way each if and while goes, and the line of each access"

-- what the layer hears besides
abbrev pub layer_words : Bool → List ℕ
layer_words true = codes "; time-variable: how long both operands of each / and % are"
layer_words false = []

abbrev pub model_words : Layered → List ℕ
model_words m = base_words m.base ++ layer_words m.timed
