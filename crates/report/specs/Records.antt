-- The record of a listing: its counts, its arrays and its nodes, blocks indented.
use Rattle.std.specs.Prelude.{ℕ, ◌+◌, ◌-◌, List, [], ◌∷◌, ◌++◌, take, codes, decimal}
use Rattle.listing.specs.declared.parts.Counts.{Counts}
use Rattle.listing.specs.declared.parts.Listing.{Listing}
use Rattle.rules.specs.declared.Region.{Region}
use Rattle.rules.specs.declared.Node.{Node}
use Rattle.rules.specs.declared.Node.TheVariants.{Constant, Move, Operate, Select, Read, Write, If, Else, EndIf, While, EndWhile}
use Rattle.texts.specs.Layouts.{times, set_right}
use Rattle.texts.specs.Words.{node_letter, node_words}

abbrev pub counts_text : Counts → List ℕ
counts_text c =
    codes "scalars  " ++ (decimal c.scalars ++ (10 ∷ (codes "arrays   " ++ (decimal c.arrays ++ (10 ∷ (codes "nodes    " ++ (decimal c.nodes ++ (10 ∷ []))))))))

-- array j: number, start cell, length, first and last cell
abbrev pub region_row : ℕ → Region → List ℕ
region_row j g =
    set_right 5 j ++ (set_right 7 g.start ++ (set_right 8 g.length ++ (codes "  " ++ (decimal g.start ++ (codes " to " ++ (decimal (g.start + g.length - 1) ++ (10 ∷ [])))))))

-- arrays numbered from j on
abbrev pub region_rows : ℕ → List Region → List ℕ
region_rows j [] = []
region_rows j (g ∷ gs) = region_row j g ++ region_rows (j + 1) gs

abbrev pub regions_heading : List ℕ
regions_heading = 10 ∷ (codes "array  start  length  cells" ++ (10 ∷ []))

abbrev pub regions_table : List Region → List ℕ
regions_table gs = regions_heading ++ region_rows 0 gs

-- the table, if there are any
abbrev pub regions_text : List Region → List ℕ
regions_text [] = []
regions_text (g ∷ gs) = regions_table (g ∷ gs)

-- how many blocks are open after a node, where d are before it
abbrev pub depth_after : ℕ → Node → ℕ
depth_after d (Constant t v) = d
depth_after d (Move t a) = d
depth_after d (Operate t op a b) = d
depth_after d (Select t c a b) = d
depth_after d (Read t a i) = d
depth_after d (Write a i v) = d
depth_after d (If c e) = d + 1
depth_after d (Else f) = d
depth_after d (EndIf i) = d - 1
depth_after d (While c j) = d + 1
depth_after d (EndWhile h) = d - 1

-- how far a node is indented: an else and an end stand below their head
abbrev pub row_depth : ℕ → Node → ℕ
row_depth d (Constant t v) = d
row_depth d (Move t a) = d
row_depth d (Operate t op a b) = d
row_depth d (Select t c a b) = d
row_depth d (Read t a i) = d
row_depth d (Write a i v) = d
row_depth d (If c e) = d
row_depth d (Else f) = d - 1
row_depth d (EndIf i) = d - 1
row_depth d (While c j) = d
row_depth d (EndWhile h) = d - 1

-- node p, before which d blocks are open: number, letter, and what it does
abbrev pub node_row : ℕ → ℕ → Node → List ℕ
node_row p d n =
    set_right 4 p ++ (codes "  " ++ (node_letter n ++ (codes "  " ++ (times (row_depth d n) (codes "  ") ++ (node_words n ++ (10 ∷ []))))))

-- nodes numbered from p on
abbrev pub node_rows : ℕ → ℕ → List Node → List ℕ
node_rows p d [] = []
node_rows p d (n ∷ ns) = node_row p d n ++ node_rows (p + 1) (depth_after d n) ns

abbrev pub nodes_heading : List ℕ
nodes_heading = 10 ∷ (codes "node" ++ (10 ∷ []))

abbrev pub nodes_table : List Node → List ℕ
nodes_table ns = nodes_heading ++ node_rows 0 0 ns

-- the table, if there are any
abbrev pub nodes_text : List Node → List ℕ
nodes_text [] = []
nodes_text (n ∷ ns) = nodes_table (n ∷ ns)

abbrev pub record_text : Listing → List ℕ
record_text t =
    counts_text t.counts ++ (regions_text (take t.counts.arrays t.regions) ++ nodes_text (take t.counts.nodes t.nodes))
