use Rattle.std.proofs.Common.{◌≡◌, ◌++◌, take}
use Rattle.lines.specs.Text.{over}
use Rattle.verdict.specs.Slips.{slip_word}
use Rattle.verdict.proofs.Pieces.{columns}
use Rattle.verdict.proofs.slip.put_slip.Given as goal

abbrev pub invariant-loop-i : goal.invariant-loop-i
invariant-loop-i l = l.room ≡ over 0 (slip_word l.fn.slip ++ columns (take l.i l.number-items)) l.fn.room
