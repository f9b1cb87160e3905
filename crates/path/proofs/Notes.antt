-- A hunt in which no place was noted.
use Rattle.std.proofs.Common.{◌≡◌, ℕ, zero, suc, ◌+◌, ◌*◌, ◌≤◌, Bool, false, List, length, get_or, replicate, sym, refl, ap, ◌∙◌, inl, inr, arith, cond}
use Rattle.std.proofs.lemmas.List.Sums.{sum_by-cons}
use Rattle.std.proofs.lemmas.List.{get_or-replicate, get_or_past, length-replicate}
use Rattle.std.proofs.lemmas.Bool.{cases_lt, both_ways}
use Rattle.path.specs.declared.hunt.Entry.{Entry}
use Rattle.path.specs.declared.hunt.Hunt.{Hunt}
use Rattle.path.specs.Ways.{no_place}
use Rattle.path.specs.Seen.{unseen}
use Rattle.path.specs.Hunts.{NoneSeen}

abbrev none : Entry
none = record { place = no_place; next = 0 }

unseen_all : (n : ℕ) → unseen (replicate n false) ≡ n
unseen_all zero = refl
unseen_all (suc n) = sum_by-cons (λ b. cond b 0 1) false (replicate n false) ∙ omega (arith, unseen_all n)

unseen_at : (n i : ℕ) → get_or (replicate n false) i false ≡ false
unseen_at n i = elim (cases_lt i n) [
  | inl l ↦ get_or-replicate n i false false l
  | inr g ↦ let long : length (replicate n false) ≤ i = omega (arith, length-replicate n false) in get_or_past (replicate n false) i false long
]

pub none_trailed : (h : Hunt) (n : ℕ) → n ≡ 3096 → h.entries ≡ replicate n none → h.seen ≡ replicate n false → h.count ≡ 0 → NoneSeen h
none_trailed h n e f g z = record {
  trailed = record {
    entries_long = ap (λ (xs : List Entry). length xs) f ∙ length-replicate n none ∙ e;
    seen_long = ap (λ (xs : List Bool). length xs) g ∙ length-replicate n false ∙ e;
    told = λ p k l s. absurd (both_ways false refl (sym (ap (λ (xs : List Bool). get_or xs (p * 24 + k) false) g ∙ unseen_at n (p * 24 + k)) ∙ s));
  };
  none = z;
}
