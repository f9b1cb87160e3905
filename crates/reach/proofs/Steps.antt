-- What reaches a point is passed on to its next points.
use Rattle.std.proofs.Common.{◌≡◌, ℕ, ◌<◌, ◌≤◌, Bool, true, false, ◌||◌, ◌⊎◌, ◌↔◌, set, sym, ap, ◌∙◌, inl, inr, arith}
use Rattle.std.proofs.lemmas.List.{get_or-set_same, get_or-set_other}
use Rattle.std.proofs.lemmas.Bool.{cases_eq, cases_Bool, or_cases, or_parts}
use Rattle.levels.specs.Names.{Has}
use Rattle.rules.specs.Routine.{Routine, node, Next}
use Rattle.reach.specs.declared.table.Row.{Row}
use Rattle.reach.specs.declared.work.Work.{Work}
use Rattle.reach.specs.Table.{at, row_at, cell}
use Rattle.reach.specs.Work.{room, Shaped, pending_at, Passes, Put, Passed}

-- a row that was not put into, or that did not grow, is as it was
kept_row : (old new : Work) (q : ℕ) (from : Row) (g : Bool) → Put old new q from g → (k : ℕ) → (k ≡ q → g ≡ false) → row_at new.table k ≡ row_at old.table k
kept_row old new q from g P k h = elim (cases_eq k q) [ inl e ↦ ap (λ t. row_at t k) (P.same (h e)) | inr ne ↦ P.elsewhere k ne ]

no_room : (old new : Work) (q : ℕ) (from : Row) (g : Bool) → Put old new q from g → room new.table ≤ room old.table
no_room old new q from g P = elim (cases_Bool g) [ inl e ↦ omega (arith, P.falls e) | inr e ↦ omega (arith, ap room (P.same e)) ]

-- a flag that tells whether a point that grew lies no further than p
pub record Back (p to : ℕ) (grew flag : Bool) : Type 0 where
  pub back : flag ≡ true → grew ≡ true
  pub ahead : flag ≡ false → to ≤ p → grew ≡ false

module _ (r : Routine) (p : ℕ) (old mid new : Work) (q₁ q₂ : ℕ) (out : Row) (g₁ g₂ b₁ b₂ : Bool)
    (next : (q : ℕ) → (Next (node r p) p q ↔ ((q ≡ q₁) ⊎ (q ≡ q₂))))
    (flow : (name d : ℕ) → (Has (at out d) name ↔ Passes r old.table p name d))
    (P₁ : Put (record { table = old.table; pending = set old.pending p false }) mid q₁ out g₁) (P₂ : Put mid new q₂ out g₂)
    (sh : Shaped old) (within : p < 129) (B₁ : Back p q₁ g₁ b₁) (B₂ : Back p q₂ g₂ b₂) where
  abbrev cleared : Work
  cleared = record { table = old.table; pending = set old.pending p false }

  got : (q k name : ℕ) → Has (cell new.table q k) name → Has (cell old.table q k) name ⊎ (Next (node r p) p q × Passes r old.table p name k)
  got q k name h = elim ((P₂.gains q k name).0 h) [
    | inl x ↦ elim ((P₁.gains q k name).0 x) [
      | inl y ↦ inl y
      | inr y ↦ inr ((next q).1 (inl y.0), (flow name k).0 y.1)
    ]
    | inr x ↦ inr ((next q).1 (inr x.0), (flow name k).0 x.1)
  ]

  gives : (q k name : ℕ) → Has (cell old.table q k) name ⊎ (Next (node r p) p q × Passes r old.table p name k) → Has (cell new.table q k) name
  gives q k name h = elim h [
    | inl x ↦ (P₂.gains q k name).1 (inl ((P₁.gains q k name).1 (inl x)))
    | inr x ↦ elim ((next q).0 x.0) [
      | inl e ↦ (P₂.gains q k name).1 (inl ((P₁.gains q k name).1 (inr (e, (flow name k).1 x.1))))
      | inr e ↦ (P₂.gains q k name).1 (inr (e, (flow name k).1 x.1))
    ]
  ]

  rows_kept : (k : ℕ) → (k ≡ q₁ → g₁ ≡ false) → (k ≡ q₂ → g₂ ≡ false) → row_at new.table k ≡ row_at old.table k
  rows_kept k h₁ h₂ = kept_row mid new q₂ out g₂ P₂ k h₂ ∙ kept_row cleared mid q₁ out g₁ P₁ k h₁

  first_falls : g₁ ≡ true → room new.table < room old.table
  first_falls e = omega (arith, P₁.falls e, no_room mid new q₂ out g₂ P₂)

  second_falls : g₂ ≡ true → room new.table < room old.table
  second_falls e = omega (arith, P₂.falls e, no_room cleared mid q₁ out g₁ P₁)

  both_fall : (b₁ || b₂) ≡ true → room new.table < room old.table
  both_fall h = elim (or_cases b₁ b₂ h) [ inl e ↦ first_falls (B₁.back e) | inr e ↦ second_falls (B₂.back e) ]

  stays_clean : (b₁ || b₂) ≡ false → (k : ℕ) → k ≤ p → (k ≡ p) ⊎ (pending_at old k ≡ false) → pending_at new k ≡ false
  stays_clean h k l was =
      let none = or_parts b₁ b₂ h in
      let mid-clean : pending_at cleared k ≡ false =
      elim (cases_eq k p) [
        | inl e ↦ ap (pending_at cleared) e ∙ get_or-set_same old.pending p false false (omega (arith, within, sh.flags))
        | inr ne ↦ get_or-set_other old.pending p k false false ne ∙ elim was [ inl e ↦ absurd (ne e) | inr c ↦ c ]
      ] in
      P₂.unmarked k (λ e. B₂.ahead none.1 (omega arith)) (P₁.unmarked k (λ e. B₁.ahead none.0 (omega arith)) mid-clean)

  pub passed : Passed r old new p (b₁ || b₂)
  passed = record {
    shape = P₂.shape;
    gains = λ q k name. (got q k name, gives q k name);
    still = λ k h. let m₂ = P₂.marks k h in let m₁ = P₁.marks k m₂.0 in rows_kept k m₁.1 m₂.1;
    was_still = λ k h ne.
        let m₁ = P₁.marks k (P₂.marks k h).0 in
        sym (get_or-set_other old.pending p k false false ne) ∙ m₁.0;
    clean = stays_clean;
    falls = both_fall;
    less = omega (arith, no_room cleared mid q₁ out g₁ P₁, no_room mid new q₂ out g₂ P₂);
  }
