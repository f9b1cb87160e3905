-- The lines that bytes are cut into.
use Rattle.std.proofs.Common.{◌≡◌, ℕ, zero, suc, ◌+◌, ◌*◌, ◌<◌, List, get_or, take, drop, refl, ap, ◌∙◌, arith}
use Rattle.std.proofs.lemmas.List.{drop-drop}
use Rattle.std.specs.Simd.{first_chunks}

pub cut_at : (k i : ℕ) (s : List ℕ) (d : List ℕ) → i < k → get_or (first_chunks 51 k s) i d ≡ take 51 (drop (51 * i) s)
cut_at zero i s d h = absurd (omega arith)
cut_at (suc k) zero s d h = refl
cut_at (suc k) (suc i) s d h =
    let e : 51 + 51 * i ≡ 51 * suc i = omega arith in
    cut_at k i (drop 51 s) d (omega arith) ∙ ap (take 51) (drop-drop (51 * i) 51 s ∙ ap (λ n. drop n s) e)
