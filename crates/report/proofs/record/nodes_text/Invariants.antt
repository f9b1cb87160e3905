use Rattle.std.proofs.Common.{◌≡◌, ◌≤◌, ◌++◌, drop, string_bytes}
use Rattle.report.specs.Records.{node_rows, nodes_table}
use Rattle.report.proofs.record.nodes_text.Given as goal

-- what is shown, with the rows to come, is the table; no more blocks are open than nodes are shown
abbrev pub invariant-loop-number : goal.invariant-loop-number
invariant-loop-number l =
    (string_bytes l.out ++ node_rows l.number l.depth (drop l.number l.nodes) ≡ nodes_table l.nodes) × (l.depth ≤ l.number)
