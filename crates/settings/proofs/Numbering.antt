-- The numbers of owners, one turn after another. Assumes nothing.
use Rattle.std.proofs.Common.{◌≡◌, ℕ, suc, ◌+◌, ◌-◌, ◌/◌, ◌%◌, ◌<◌, Bool, true, false, eqb, ◌++◌, decimal, refl, ap, ◌∙◌, arith, ne_eqb}
use Rattle.settings.specs.Names.{owner_numbers, all_numbers, separator}

pub number_step : (f : Bool) (s k : ℕ) → k < 16 → s % 2 ≡ 1 → owner_numbers f s k (16 - k) ≡ (separator f ++ decimal k) ++ owner_numbers false (s / 2) (k + 1) (16 - (k + 1))
number_step f s k h t = let e : 16 - k ≡ suc (16 - (k + 1)) = omega arith in ap (owner_numbers f s k) e ∙ rw t

pub number_pass : (f : Bool) (s k : ℕ) → k < 16 → (s % 2 ≡ 1 → ⊥) → owner_numbers f s k (16 - k) ≡ owner_numbers f (s / 2) (k + 1) (16 - (k + 1))
number_pass f s k h t =
    let e : 16 - k ≡ suc (16 - (k + 1)) = omega arith in
    let u : eqb (s % 2) 1 ≡ false = ne_eqb (s % 2) 1 t in ap (owner_numbers f s k) e ∙ rw u

pub all_is : (s : ℕ) → all_numbers s ≡ owner_numbers true s 0 16
unfolding all_numbers
all_is s = refl
