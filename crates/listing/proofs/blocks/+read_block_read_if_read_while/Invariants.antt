use Rattle.std.proofs.Common.{◌≡◌, ◌+◌, ◌-◌, ◌*◌, ◌≤◌, List, length}
use Rattle.listing.specs.Blocks.{Open, scan_from}
use Rattle.listing.proofs.blocks.+read_block_read_if_read_while.Given as goal

abbrev pub decreases-read_block : goal.decreases-read_block
decreases-read_block l = 2 * l.depth + 1

abbrev pub decreases-read_if : goal.decreases-read_if
decreases-read_if l = 2 * l.depth

abbrev pub decreases-read_while : goal.decreases-read_while
decreases-read_while l = 2 * l.depth

abbrev pub invariant-read_block-loop-at : goal.invariant-read_block-loop-at
invariant-read_block-loop-at l =
    (l.from ≤ l.at) × (l.at ≤ l.source.counts.nodes)
    × ((st : List Open) → length st + l.depth ≡ 16 → scan_from l.source.bytes.now l.source.counts l.from st l.initial.nodes ≡ scan_from l.source.bytes.now l.source.counts l.at st l.nodes)

abbrev pub decreases-read_block-loop-at : goal.decreases-read_block-loop-at
decreases-read_block-loop-at l = l.source.counts.nodes - l.at
