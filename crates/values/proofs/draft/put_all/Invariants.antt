use Rattle.std.proofs.Common.{◌≡◌, ℕ, ◌<◌, get_or, None, unwrap_or}
use Rattle.values.proofs.draft.put_all.Given as goal

abbrev pub invariant-loop-place : goal.invariant-loop-place
invariant-loop-place l = (k : ℕ) → k < l.place → get_or l.row k 0 ≡ unwrap_or (get_or l.places k None) 0
