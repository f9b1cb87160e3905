-- A row of the table replaced by what it joins to.
use Rattle.std.proofs.Common.{◌≡◌, ℕ, ◌<◌, Bool, false, ◌||◌, ◌⊎◌, ◌↔◌, List, [], set, sym, refl, ap, ◌∙◌, ap₂, inl, inr, arith}
use Rattle.std.proofs.lemmas.List.Sums.{sum_by-set}
use Rattle.std.proofs.lemmas.List.{get_or-set_same, get_or-set_other, length-set, set-get_or}
use Rattle.std.proofs.lemmas.Bool.{cases_eq, or_parts}
use Rattle.levels.specs.Names.{Has}
use Rattle.reach.specs.declared.table.Row.{Row}
use Rattle.reach.specs.declared.table.ReachTable.{ReachTable}
use Rattle.reach.specs.declared.work.Work.{Work}
use Rattle.reach.specs.Merging.{space, Joined}
use Rattle.reach.specs.Table.{at, row_at, cell}
use Rattle.reach.specs.Work.{Shaped, pending_at, Put}

or_none : (a b : Bool) → a ≡ false → b ≡ false → (a || b) ≡ false
or_none a b p q = ap₂ ◌||◌ p q

abbrev none : Row
none = record { sets = [] }

module _
    (w : Work) (q : ℕ) (from row : Row) (grew : Bool) (sh : Shaped w) (within : q < 129)
    (J : Joined (row_at w.table q).sets from.sets row.sets grew) where
  abbrev rows : List Row
  rows = w.table.rows

  abbrev replaced : Work
  replaced = record { table = record { rows = set rows q row }; pending = set w.pending q (pending_at w q || grew) }

  there : row_at replaced.table q ≡ row
  there = get_or-set_same rows q row none (omega (arith, sh.rows))

  elsewhere : (p : ℕ) → (p ≡ q → ⊥) → row_at replaced.table p ≡ row_at w.table p
  elsewhere p ne = get_or-set_other rows q p row none ne

  gained :
      (p k name : ℕ) → (Has (cell replaced.table p k) name ↔ (Has (cell w.table p k) name ⊎ ((p ≡ q) × Has (at from k) name)))
  gained p k name = elim (cases_eq p q) [
    | inl e ↦ rw (e, there) (
      λ h. elim ((J.joins k name).0 h) [ inl x ↦ inl x | inr x ↦ inr (refl, x) ],
      λ h. (J.joins k name).1 (elim h [ inl x ↦ inl x | inr x ↦ inr x.1 ]),
    )
    | inr ne ↦ rw (elsewhere p ne) (inl, λ h. elim h [ inl x ↦ x | inr x ↦ absurd (ne x.0) ])
  ]

  marked : (p : ℕ) → pending_at replaced p ≡ false → (pending_at w p ≡ false) × (p ≡ q → grew ≡ false)
  marked p h = elim (cases_eq p q) [
    | inl e ↦
        let flags : (pending_at w q || grew) ≡ false = sym (get_or-set_same w.pending q (pending_at w q || grew) false (omega (arith, sh.flags))) ∙ (rw e at h) in
        let parts = or_parts (pending_at w q) grew flags in
        (rw e parts.0, λ _. parts.1)
    | inr ne ↦ (sym (get_or-set_other w.pending q p (pending_at w q || grew) false ne) ∙ h, λ e. absurd (ne e))
  ]

  unmarked : (p : ℕ) → (p ≡ q → grew ≡ false) → pending_at w p ≡ false → pending_at replaced p ≡ false
  unmarked p none h = elim (cases_eq p q) [
    | inl e ↦
        let flag : (pending_at w q || grew) ≡ false = or_none (pending_at w q) grew (rw e at h) (none e) in
        ap (pending_at replaced) e ∙ get_or-set_same w.pending q (pending_at w q || grew) false (omega (arith, sh.flags)) ∙ flag
    | inr ne ↦ get_or-set_other w.pending q p (pending_at w q || grew) false ne ∙ h
  ]

  pub put_row : Put w replaced q from grew
  put_row = record {
    shape = record { rows = length-set rows q row ∙ sh.rows; flags = length-set w.pending q (pending_at w q || grew) ∙ sh.flags };
    gains = gained;
    elsewhere = elsewhere;
    marks = marked;
    unmarked = unmarked;
    same = λ g. ap (λ rs. let x : ReachTable = record { rows = rs } in x) (ap (λ ss. set rows q (record { sets = ss })) (J.same g) ∙ set-get_or rows q none);
    falls = λ g. omega (arith, J.falls g, sum_by-set (λ x. space x.sets) rows q row none (omega (arith, sh.rows)));
  }
