use Rattle.std.proofs.Common.{◌≡◌, ℕ, ◌<◌, get_or}
use Rattle.levels.specs.declared.secrecy.Secrecy.TheVariants.{Public}
use Rattle.verdict.specs.Digits.{level_of}
use Rattle.verdict.proofs.digits.read_levels.Given as goal

abbrev pub invariant-loop-place : goal.invariant-loop-place
invariant-loop-place l = (k : ℕ) → k < l.place → get_or l.table k Public ≡ level_of (get_or l.digits k 0)
