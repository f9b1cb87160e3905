-- Loops that add text, turn by turn. Assumes nothing.
use Rattle.std.proofs.Common.{◌≡◌, ℕ, suc, ◌+◌, ◌-◌, ◌<◌, List, ◌++◌, ap, ◌∙◌, append_assoc, arith}
use Rattle.texts.specs.Layouts.{times}

-- what was added, by another name
pub onto_is : (n b d m : List ℕ) → b ≡ d → m ≡ n ++ b → m ≡ n ++ d
onto_is n b d m e q = q ∙ ap (λ (l : List ℕ). n ++ l) e

-- a turn that adds s, the first of what is due, leaves the rest due
pub turned : (was s rest due now whole : List ℕ) → now ≡ was ++ s → due ≡ s ++ rest → was ++ due ≡ whole → now ++ rest ≡ whole
turned was s rest due now whole p d q = simp (p, append_assoc) (rw d at q)

pub times_step : (n k : ℕ) (s : List ℕ) → k < n → times (n - k) s ≡ s ++ times (n - (k + 1)) s
times_step n k s h = let e : n - k ≡ suc (n - (k + 1)) = omega arith in ap (λ m. times m s) e
