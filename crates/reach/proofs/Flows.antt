-- What a node does to a row.
use Rattle.std.proofs.Common.{◌≡◌, ℕ, ◌<◌, true, false, eqb, ◌↔◌, List, length, get_or, set, Some, None, refl, ap, ◌∙◌, inl, inr, arith}
use Rattle.std.proofs.lemmas.List.{get_or-set_same, get_or-set_other}
use Rattle.std.proofs.lemmas.Bool.{cases_eq, both_ways, eq-eqb, ne_eqb}
use Rattle.levels.specs.declared.name_set.NameSet.{NameSet}
use Rattle.rules.specs.declared.Node.{Node}
use Rattle.levels.specs.Names.{Has, no_names}
use Rattle.rules.specs.Routine.{target_of, sets}
use Rattle.rules.specs.declared.Node.TheVariants.{Constant, Move, Operate, Select, Read, Write, If, Else, EndIf, While, EndWhile}
use Rattle.reach.specs.Passing.{Flow, Inflow}

module _ (xs : List NameSet) (t : ℕ) (v : NameSet) (nd : Node) (s name : ℕ) (long : t < length xs) (sets-is : (k : ℕ) → sets nd k ≡ eqb k t)
    (got : Has v name ↔ Inflow s nd (λ k. Has (get_or xs k no_names) name) name) where
  at_target : (d : ℕ) → d ≡ t → Has (get_or (set xs t v) d no_names) name ↔ Flow s nd (λ k. Has (get_or xs k no_names) name) name d
  at_target d e =
      let is : get_or (set xs t v) d no_names ≡ v = rw e (get_or-set_same xs t v no_names long) in
      let st : sets nd d ≡ true = sets-is d ∙ eq-eqb d t e in
      rw is (λ h. inr (st, got.0 h), λ f. elim f [ inl q ↦ absurd (both_ways (sets nd d) q.0 st) | inr q ↦ got.1 q.1 ])

  at_other : (d : ℕ) → (d ≡ t → ⊥) → Has (get_or (set xs t v) d no_names) name ↔ Flow s nd (λ k. Has (get_or xs k no_names) name) name d
  at_other d ne =
      let ns : sets nd d ≡ false = sets-is d ∙ ne_eqb d t ne in
      rw (get_or-set_other xs t d v no_names ne) (λ h. inl (ns, h), λ f. elim f [ inl q ↦ q.1 | inr q ↦ absurd (both_ways (sets nd d) ns q.0) ])

  pub replaced : (d : ℕ) → Has (get_or (set xs t v) d no_names) name ↔ Flow s nd (λ k. Has (get_or xs k no_names) name) name d
  replaced d = elim (cases_eq d t) [ inl e ↦ at_target d e | inr ne ↦ at_other d ne ]

-- Where a node sets nothing, each scalar keeps its names.
pub all_kept : (X : ℕ → Type 0) (nd : Node) (s name : ℕ) → ((k : ℕ) → sets nd k ≡ false) → (d : ℕ) → X d ↔ Flow s nd X name d
all_kept X nd s name none-set d = (λ h. inl (none-set d, h), λ f. elim f [ inl q ↦ q.1 | inr q ↦ absurd (both_ways (sets nd d) (none-set d) q.0) ])

pub sets_target : (nd : Node) (t : ℕ) → target_of nd ≡ Some t → (k : ℕ) → sets nd k ≡ eqb k t
sets_target (Constant x v) t e k = let q : x ≡ t = cc in ap (eqb k) q
sets_target (Move x y) t e k = let q : x ≡ t = cc in ap (eqb k) q
sets_target (Operate x op y z) t e k = let q : x ≡ t = cc in ap (eqb k) q
sets_target (Select x c y z) t e k = let q : x ≡ t = cc in ap (eqb k) q
sets_target (Read x b i) t e k = let q : x ≡ t = cc in ap (eqb k) q
sets_target (Write b i v) t e k = let q : ◌≡◌ {A = ℕ} 0 1 = cc in absurd (omega arith)
sets_target (If c e') t e k = let q : ◌≡◌ {A = ℕ} 0 1 = cc in absurd (omega arith)
sets_target (Else f) t e k = let q : ◌≡◌ {A = ℕ} 0 1 = cc in absurd (omega arith)
sets_target (EndIf f) t e k = let q : ◌≡◌ {A = ℕ} 0 1 = cc in absurd (omega arith)
sets_target (While c j) t e k = let q : ◌≡◌ {A = ℕ} 0 1 = cc in absurd (omega arith)
sets_target (EndWhile f) t e k = let q : ◌≡◌ {A = ℕ} 0 1 = cc in absurd (omega arith)

pub sets_no_names : (nd : Node) → target_of nd ≡ None → (k : ℕ) → sets nd k ≡ false
sets_no_names (Constant x v) e k = let q : ◌≡◌ {A = ℕ} 0 1 = cc in absurd (omega arith)
sets_no_names (Move x y) e k = let q : ◌≡◌ {A = ℕ} 0 1 = cc in absurd (omega arith)
sets_no_names (Operate x op y z) e k = let q : ◌≡◌ {A = ℕ} 0 1 = cc in absurd (omega arith)
sets_no_names (Select x c y z) e k = let q : ◌≡◌ {A = ℕ} 0 1 = cc in absurd (omega arith)
sets_no_names (Read x b i) e k = let q : ◌≡◌ {A = ℕ} 0 1 = cc in absurd (omega arith)
sets_no_names (Write b i v) e k = refl
sets_no_names (If c e') e k = refl
sets_no_names (Else f) e k = refl
sets_no_names (EndIf f) e k = refl
sets_no_names (While c j) e k = refl
sets_no_names (EndWhile f) e k = refl
