-- Level digits, one after the other.
use Rattle.std.proofs.Common.{not, cond, Bool, Option, refl, ◌≡◌, ℕ, ◌+◌, true, false, List, [], ◌∷◌, Some}
use Rattle.std.specs.List.{position_from}
use Rattle.verdict.specs.Digits.{is_digit, first_wrong}

-- the first byte that is no digit, by std's word
pub wrong_from : (i : ℕ) (ds : List ℕ) → first_wrong i ds ≡ position_from (λ b. not (is_digit b)) i ds
wrong_from i [] = refl
wrong_from i (b ∷ bs) = go (is_digit b) (wrong_from (i + 1) bs) where
  go : (t : Bool) {x y : Option ℕ} → x ≡ y → cond t x (Some i) ≡ cond (not t) (Some i) y
  go true e = e
  go false e = refl
