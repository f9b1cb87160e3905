-- Where the first byte stands of which a test holds, and the values of a draft.
use Rattle.std.proofs.Common.{◌≡◌, ℕ, ◌<◌, ◌≤◌, Bool, true, false, cond, not, ltb, List, map, length, get_or, Option, Some, None, unwrap_or, sym, refl, ap, ◌∙◌, arith}
use Rattle.std.specs.List.{position_or_len}
use Rattle.std.proofs.lemmas.List.{ext_get_or, get_or-map, length-map}
use Rattle.std.proofs.lemmas.Bool.{ltb-false}
use Rattle.std.proofs.lemmas.List.Sums.{prefix_len-le-length}

first_or : (n l : ℕ) (t : Bool) → t ≡ ltb n l → n ≤ l → unwrap_or (cond t (Some n) None) l ≡ n
first_or n l true e h = refl
first_or n l false e h = let k : l ≤ n = ltb-false _ _ (sym e) in omega arith

-- The first place where p holds, or all.
pub stops_at : (p : ℕ → Bool) (s : List ℕ) (r : Option ℕ) (n : ℕ) → r ≡ cond (ltb (position_or_len p s) (length s)) (Some (position_or_len p s)) None
    → n ≡ unwrap_or r (length s) → n ≡ position_or_len p s
stops_at p s r n e f = f ∙ ap (λ o. unwrap_or o (length s)) e ∙ first_or (position_or_len p s) (length s) _ refl (prefix_len-le-length (λ x. not (p x)) s)

-- What holds 0 where no value is given, place by place.
pub given_or_zero : (xs : List (Option ℕ)) (ys : List ℕ) → length ys ≡ length xs → ((i : ℕ) → i < length xs → get_or ys i 0 ≡ unwrap_or (get_or xs i None) 0)
    → ys ≡ map (λ v. unwrap_or v 0) xs
given_or_zero xs ys e h =
    ext_get_or 0 ys (map (λ v. unwrap_or v 0) xs) (e ∙ sym (length-map xs (λ v. unwrap_or v 0)))
    (λ i k. h i (omega (arith, e)) ∙ sym (get_or-map (λ v. unwrap_or v 0) xs i None 0 (omega (arith, e))))
