-- A way followed entry by entry.
use Rattle.std.proofs.Common.{◌≡◌, ℕ, ◌+◌, ◌-◌, ◌<◌, ◌≤◌, List, length, get_or, set, sym, ap, ◌∙◌, subst, inl, inr, arith}
use Rattle.std.proofs.lemmas.List.{get_or-set_same, get_or-set_other, length-set}
use Rattle.std.proofs.lemmas.Bool.{cases_eq}
use Rattle.rules.specs.Routine.{Routine}
use Rattle.path.specs.declared.place.Place.{Place}
use Rattle.path.specs.declared.place.Path.{Path}
use Rattle.path.specs.declared.hunt.Hunt.{Hunt}
use Rattle.path.specs.Ways.{Moves, Begins, Way, no_place, step_of}
use Rattle.path.specs.Hunts.{entry_at, place_at, Falling, Followed, Hunting}

pub record Following (h : Hunt) (from : ℕ) (places : List Place) (count at : ℕ) : Type 0 where
  pub long : length places ≡ 3096
  pub some : 1 ≤ count
  pub left : count + at ≤ from + 1
  pub within : at < h.count
  pub begins : get_or places 0 no_place ≡ place_at h from
  pub steps :
      (j : ℕ)
      → j + 1 < count
      → (e : ℕ) × (0 < e) × (e < h.count) × (get_or places j no_place ≡ place_at h e) × (get_or places (j + 1) no_place ≡ place_at h (entry_at h e).next)
  pub ends : get_or places (count - 1) no_place ≡ place_at h at

module _ (h : Hunt) (from : ℕ) (places : List Place) (count at : ℕ) (F : Falling h) (start : from < h.count) (C : Following h from places count at) (more : 0 < at) where
  abbrev next : ℕ
  next = (entry_at h at).next

  abbrev longer : List Place
  longer = set places count (place_at h next)

  room : count < 3096
  room = omega (arith, C.left, F.few)

  there : get_or longer count no_place ≡ place_at h next
  there = get_or-set_same places count (place_at h next) no_place (omega (arith, C.long, room))

  before : (j : ℕ) → j < count → get_or longer j no_place ≡ get_or places j no_place
  before j b = get_or-set_other places count j (place_at h next) no_place (omega arith)

  pub following_more : Following h from longer (count + 1) next
  following_more =
      let falls = F.falls at more C.within in
      record {
        long = length-set places count (place_at h next) ∙ C.long;
        some = omega arith;
        left = omega (arith, C.left);
        within = omega (arith, C.within);
        begins = before 0 (omega (arith, C.some)) ∙ C.begins;
        steps =
            λ j b.
            elim (cases_eq (j + 1) count) [
              | inl e ↦
                  let last : get_or longer j no_place ≡ place_at h at =
                  before j (omega arith) ∙ (let je : j ≡ count - 1 = omega arith in ap (λ n. get_or places n no_place) je ∙ C.ends) in
                  (at, more, C.within, last, ap (λ n. get_or longer n no_place) e ∙ there)
              | inr ne ↦
                  let s = C.steps j (omega arith) in
                  (s.0, s.1, s.2, before j (omega arith) ∙ s.3, before (j + 1) (omega arith) ∙ s.4)
            ];
        ends = let ce : count + 1 - 1 ≡ count = omega arith in ap (λ n. get_or longer n no_place) ce ∙ there;
      }

pub followed : (h : Hunt) (from : ℕ) (x : Path) (at : ℕ) → at ≡ 0 → Following h from x.places x.count at → Followed h from x
followed h from x at z C = record {
  some = omega (arith, C.some);
  few = omega (arith, C.left);
  begins = C.begins;
  steps = C.steps;
  ends = C.ends ∙ ap (place_at h) z;
}

pub falling : (r : Routine) (m : ℕ) (to : Place) (h : Hunt) (i : ℕ) → Hunting r m to h i → Falling h
falling r m to h i H = record {
  long = H.trailed.entries_long;
  few = omega (arith, h.rest);
  falls = λ e z b. (H.leads e z b).0;
}

pub way_found :
    (r : Routine) (m : ℕ) (to : Place) (h : Hunt) (i : ℕ) (x : Path)
    → Hunting r m to h i
    → i < h.count
    → Begins r m (place_at h i) x.origin
    → Followed h i x
    → Way r m to x
way_found r m to h i x H within begins F = record {
  some = F.some;
  few = omega (arith, F.few, h.rest);
  begins = subst (λ (a : Place). Begins r m a x.origin) (sym F.begins) begins;
  steps = λ j b.
      let s = F.steps j b in
      subst (Moves r (step_of x j)) (sym s.4) (subst (λ (a : Place). Moves r a (place_at h (entry_at h s.0).next)) (sym s.3) (H.leads s.0 s.1 s.2).1);
  ends = F.ends ∙ H.first;
}
