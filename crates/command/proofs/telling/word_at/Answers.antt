use Rattle.std.proofs.Common.{◌≡◌, ℕ, zero, suc, ◌<◌, ◌≤◌, List, [], ◌∷◌, length, get_or, string_bytes, String, refl, ap, ◌∙◌, arith, rules}
use Rattle.command.specs.Texts.{word_in}
use Rattle.command.proofs.telling.word_at.Goals as goal

within : {H : Type 0} (ws : List (String H)) (p : ℕ) (w : String H) → p < length ws → string_bytes (get_or ws p w) ≡ word_in ws p
unfolding word_in
within [] p w h = let z : ⊥ = omega arith in absurd z
within (x ∷ ws) zero w h = refl
within (x ∷ ws) (suc p) w h = within ws p w (omega arith)

beyond : {H : Type 0} (ws : List (String H)) (p : ℕ) → length ws ≤ p → ◌≡◌ {A = List ℕ} [] (word_in ws p)
unfolding word_in
beyond [] p h = refl
beyond (x ∷ ws) zero h = let z : ⊥ = omega arith in absurd z
beyond (x ∷ ws) (suc p) h = beyond ws p (omega arith)

pub returns-in-Some : goal.returns-in-Some
returns-in-Some c =
    let found = c.in-Some.ensures.lookup in
    let told = ap string_bytes found.1 ∙ within c.args.words.now c.args.place c.in-Some.word.now found.3.0 in search rules

pub returns-in-None : goal.returns-in-None
returns-in-None c = beyond c.args.words.now c.args.place (c.in-None.ensures.lookup).3
