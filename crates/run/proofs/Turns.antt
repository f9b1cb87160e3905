-- The turns of advance's loop, and what it answers at its end.
use Rattle.std.proofs.Common.{◌≡◌, ℕ, ◌+◌, ◌<◌, ◌≤◌, Bool, true, false, not, eqb, ltb, ◌⊎◌, List, map, length, take, drop, set, sym, ap, ◌∙◌, subst, inr, arith}
use Rattle.std.proofs.lemmas.Bool.{ltb-true, ltb-false}
use Rattle.std.proofs.lemmas.List.{length-take-le, length-map}
use Rattle.rules.specs.Routine.{end}
use Rattle.rules.specs.Run.{Terms, Run, line, step, lines_of, run_of, reply}
use Rattle.rules.specs.Run.Call.{Advance}
use Rattle.rules.specs.Run.Answer.{Advanced}
use Rattle.rules.proofs.Loops.{Written, written_more, written_all}
use Rattle.run.specs.declared.memory.LeakLine.{LeakLine}
use Rattle.run.specs.declared.memory.Advanced.{Advanced as Answered}
use Rattle.run.specs.Views.{of_line, leak_line}
use Rattle.run.specs.Runs.{advanced}

module _ (x : Terms) (s₀ : Run) (xs₀ : List LeakLine) (s : Run) (xs : List LeakLine) (i : ℕ) (w : Written of_line x.model x.routine s₀ xs₀ s xs i) where
  -- a turn, in terms that are known to be x
  pub turn :
      (y : Terms) (ys : List LeakLine) (s' : Run) (b : Bool)
      → y ≡ x
      → ys ≡ set xs i (leak_line (line y.model y.routine s))
      → s' ≡ step y.routine s
      → i < length xs₀
      → ltb s.point (end y.routine) ≡ not b
      → b ≡ false
      → Written of_line x.model x.routine s₀ xs₀ s' ys (i + 1)
  turn y ys s' b same lined stepped more going on =
      subst (λ zs. Written of_line x.model x.routine s₀ xs₀ s' zs (i + 1)) (sym lined)
      (written_more of_line x.model x.routine s₀ xs₀ s s' xs i (leak_line (line y.model y.routine s)) w more
      (ltb-true _ _ (ap (λ z. ltb s.point (end z.routine)) (sym same) ∙ going ∙ ap not on))
      (ap (λ z. line z.model z.routine s) same)
      (stepped ∙ ap (λ z. step z.routine s) same))

  -- no place is left, or the run stands at the end
  pub halts :
      (y : Terms) (b : Bool) → y ≡ x → ltb s.point (end y.routine) ≡ not b → b ≡ true → (length xs₀ ≤ i) ⊎ (end x.routine ≤ s.point)
  halts y b same going off = inr (ltb-false _ _ (ap (λ z. ltb s.point (end z.routine)) (sym same) ∙ going ∙ ap not off))

  module _ (over : (length xs₀ ≤ i) ⊎ (end x.routine ≤ s.point)) where
    pub all_stands : s ≡ run_of x.routine (length xs₀) s₀
    all_stands = (written_all of_line x.model x.routine s₀ xs₀ s xs i w over).1

    pub all_rest : (n : ℕ) → n ≡ i → drop n xs ≡ drop n xs₀
    all_rest n e = subst (λ k. drop k xs ≡ drop k xs₀) (sym e) w.rest

    pub all_answered :
        (y : Terms) (a : Answered)
        → y ≡ x
        → a.count ≡ i
        → a.at_end ≡ eqb s.point (end y.routine)
        → advanced a xs ≡ reply x (Advance (length xs₀)) s₀
    all_answered y a same f e =
        let ls = lines_of x.model x.routine (length xs₀) s₀ in
        let last = eqb (run_of x.routine (length xs₀) s₀).point (end x.routine) in
        let lined : map of_line (take a.count xs) ≡ ls =
        ap (λ n. map of_line (take n xs)) f ∙ (written_all of_line x.model x.routine s₀ xs₀ s xs i w over).0 in
        let counted : a.count ≡ length ls =
        sym (length-take-le a.count xs (omega (arith, w.inside, w.long, f))) ∙ sym (length-map (take a.count xs) of_line) ∙ ap length lined in
        let ended : a.at_end ≡ last =
        e ∙ ap (λ z. eqb s.point (end z.routine)) same ∙ ap (λ t. eqb t.point (end x.routine)) all_stands in
        ap (λ n. Advanced n a.at_end (map of_line (take a.count xs))) counted
        ∙ ap (λ d. Advanced (length ls) d (map of_line (take a.count xs))) ended
        ∙ ap (Advanced (length ls) last) lined
