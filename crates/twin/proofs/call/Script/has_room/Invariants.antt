use Rattle.std.proofs.Common.{◌≡◌, ◌+◌, length, drop}
use Rattle.twin.specs.Logs.{all_places}
use Rattle.twin.proofs.call.Script.has_room.Given as goal

abbrev pub invariant-loop-call : goal.invariant-loop-call
invariant-loop-call l = all_places l.self.calls.now + l.left ≡ all_places (drop l.call-index l.self.calls.now) + length l.self.lines.now
