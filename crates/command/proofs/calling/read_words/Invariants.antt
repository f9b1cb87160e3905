use Rattle.std.proofs.Common.{◌≡◌, ◌+◌, drop}
use Rattle.command.specs.Calls.{empty_draft, read_words}
use Rattle.command.proofs.calling.read_words.Given as goal

-- what is left of the words gives what all of them give
abbrev pub invariant-loop-index : goal.invariant-loop-index
invariant-loop-index l = read_words l.verb (l.index + 1) (drop l.index l.rest) l.draft ≡ read_words l.verb 1 l.rest empty_draft
