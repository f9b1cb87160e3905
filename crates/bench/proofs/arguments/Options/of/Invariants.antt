use Rattle.std.proofs.Common.{length}
use Rattle.bench.proofs.arguments.Options.of.Given as goal

-- each turn leaves fewer words
abbrev pub decreases-loop-word : goal.decreases-loop-word
decreases-loop-word l = length l.rest
