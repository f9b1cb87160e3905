-- Where a block stops, for the contracts of the functions that read one. What load answers does not rest on this file.
use Rattle.std.specs.Prelude.{ℕ, ◌+◌, ◌<◌, ◌≤◌, Bool, true, false, cond, List, Ok, Err, Result, Option, Some, None, ◌==◌, slice_set, ◌≢◌}
use Rattle.lines.specs.declared.faults.LineFault.{LineFault}
use Rattle.lines.specs.declared.faults.LineFault.TheVariants.{Unpaired}
use Rattle.lines.specs.Lines.{bind}
use Rattle.rules.specs.declared.Node.{Node}
use Rattle.rules.specs.declared.Node.TheVariants.{Else, EndIf, EndWhile}
use Rattle.listing.specs.declared.parts.Counts.{Counts}
use Rattle.listing.specs.declared.closer.Closer.{Closer}
use Rattle.listing.specs.declared.closer.Part.{Part}
use Rattle.listing.specs.declared.closer.Part.TheVariants.{Then, Otherwise, Body}
use Rattle.listing.specs.Nodes.{node_line}
use Rattle.listing.specs.Blocks.{Open, placed, ended, scan_from}

-- A block from node p on stops at a node that exists, or at the end of the nodes.
abbrev pub StopWithin : Counts → ℕ → Option Closer → Type 0
StopWithin c p None = Unit {0}
StopWithin c p (Some x) = (p ≤ x.at) × (x.at < c.nodes)

abbrev pub NextWithin : Counts → ℕ → ℕ → Type 0
NextWithin c p q = (p < q) × (q ≤ c.nodes)

-- Node p, which is x, and all lines after it.
abbrev pub node_on : List ℕ → Counts → ℕ → Node → List Open → List Node → Result (List Node) LineFault
node_on s c p x st ns = bind (placed (node_line c p) p x st) (λ st'. scan_from s c (p + 1) st' (slice_set ns p x))

-- The node that closes a part and names node n.
abbrev pub closing : Part → ℕ → Node
closing Then n = Else n
closing Otherwise n = EndIf n
closing Body n = EndWhile n

-- The node closes no part.
abbrev pub ClosesNone : Node → Type 0
ClosesNone x = (k : Part) (n : ℕ) → x ≢ closing k n

-- All lines from where a block stops.
abbrev pub stopped : List ℕ → Counts → Option Closer → List Open → List Node → Result (List Node) LineFault
stopped s c None st ns = ended c st ns
stopped s c (Some x) st ns = node_on s c x.at (closing x.part x.named) st ns

-- What is left to read after a block, and after an if or a while that ends before node q.
abbrev pub block_answer : List ℕ → Counts → List Open → List Node → Result (Option Closer) LineFault → Result (List Node) LineFault
block_answer s c st ns (Ok x) = stopped s c x st ns
block_answer s c st ns (Err f) = Err f

abbrev pub next_answer : List ℕ → Counts → List Open → List Node → Result ℕ LineFault → Result (List Node) LineFault
next_answer s c st ns (Ok q) = scan_from s c q st ns
next_answer s c st ns (Err f) = Err f

-- The fault of a block that stops where it must not.
abbrev pub unpaired_stop : Counts → Option Closer → LineFault
unpaired_stop c None = Unpaired (node_line c c.nodes) 0
unpaired_stop c (Some x) = Unpaired (node_line c x.at) 1

abbrev pub same_part : Part → Part → Bool
same_part Then Then = true
same_part Then Otherwise = false
same_part Then Body = false
same_part Otherwise Then = false
same_part Otherwise Otherwise = true
same_part Otherwise Body = false
same_part Body Then = false
same_part Body Otherwise = false
same_part Body Body = true

-- What closes a part k that named node e, and one that has the head h too.
abbrev pub closed : Counts → Part → ℕ → Option Closer → Result Closer LineFault
closed c k e None = Err (unpaired_stop c None)
closed c k e (Some x) = cond (same_part x.part k) (cond (x.at == e) (Ok x) (Err (unpaired_stop c (Some x)))) (Err (unpaired_stop c (Some x)))

abbrev pub end_closed : Counts → Part → ℕ → ℕ → Option Closer → Result ℕ LineFault
end_closed c k e h stop =
    bind (closed c k e stop) (λ x. cond (x.named == h) (Ok x.at) (Err (Unpaired (node_line c x.at) 2)))
