use Rattle.std.proofs.Common.{◌≡◌, take}
use Rattle.lines.specs.Text.{over}
use Rattle.listing.specs.Texts.{numbered}
use Rattle.listing.proofs.writing.put_lines.Given as goal

abbrev pub invariant-loop-number : goal.invariant-loop-number
invariant-loop-number g l = l.room ≡ over l.at (numbered g.T.Lined.line 0 (take l.number l.items)) l.initial.room
