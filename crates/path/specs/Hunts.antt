-- The hunt for a way, backwards from its end.
use Rattle.std.specs.Prelude.{◌≡◌, ℕ, ◌+◌, ◌-◌, ◌*◌, ◌<◌, ◌≤◌, Bool, true, false, length, slice_index_or}
use Rattle.rules.specs.Routine.{Routine}
use Rattle.path.specs.declared.place.Place.{Place}
use Rattle.path.specs.declared.place.Origin.{Origin}
use Rattle.path.specs.declared.hunt.Entry.{Entry}
use Rattle.path.specs.declared.hunt.Hunt.{Hunt}
use Rattle.path.specs.declared.place.Path.{Path}
use Rattle.path.specs.Ways.{Moves, Begins, at_place, no_place, step_of}

abbrev pub entry_at : Hunt → ℕ → Entry
entry_at h e = slice_index_or h.entries e (record { place = no_place; next = 0 })

abbrev pub place_at : Hunt → ℕ → Place
place_at h e = (entry_at h e).place

abbrev pub seen_at : Hunt → ℕ → ℕ → Bool
seen_at h p k = slice_index_or h.seen (p * 24 + k) false

-- There is an entry for each place that was seen.
pub record Trailed (h : Hunt) : Type 0 where
  pub entries_long : length h.entries ≡ 3096
  pub seen_long : length h.seen ≡ 3096
  pub told : (p k : ℕ) → k < 24 → seen_at h p k ≡ true → (e : ℕ) × (e < h.count) × (place_at h e ≡ at_place p k)

pub record NoneSeen (h : Hunt) : Type 0 where
  pub trailed : Trailed h
  pub none : h.count ≡ 0

-- A place was noted, if it had not been seen.
pub record Noted (old new : Hunt) (a : Place) (next : ℕ) : Type 0 where
  pub trailed : Trailed old → Trailed new
  pub more : old.count ≤ new.count
  pub one : new.count ≤ old.count + 1
  pub kept : (e : ℕ) → e < old.count → entry_at new e ≡ entry_at old e
  pub marked : (p k : ℕ) → seen_at old p k ≡ true → seen_at new p k ≡ true
  pub there : seen_at new a.point a.scalar ≡ true
  pub fresh : (e : ℕ) → old.count ≤ e → e < new.count → entry_at new e ≡ record { place = a; next = next }

-- Places that lead on to entry i were noted.
pub record Extends (r : Routine) (old new : Hunt) (i : ℕ) : Type 0 where
  pub trailed : Trailed old → Trailed new
  pub more : old.count ≤ new.count
  pub kept : (e : ℕ) → e < old.count → entry_at new e ≡ entry_at old e
  pub marked : (p k : ℕ) → seen_at old p k ≡ true → seen_at new p k ≡ true
  pub fresh :
      (e : ℕ)
      → old.count ≤ e
      → e < new.count
      → ((entry_at new e).next ≡ i) × Moves r (place_at new e) (place_at old i) × ((place_at new e).scalar < r.scalars)

-- All places at point p that lead on to entry i were seen.
abbrev pub MetAt : Routine → Hunt → Place → ℕ → ℕ → Type 0
MetAt r h to p k = Moves r (at_place p k) to → seen_at h p k ≡ true

-- The hunt for start name m, at entry i: each entry leads on towards the end; what leads on to the entries before i was seen, and none of them
-- begins a way.
pub record Hunting (r : Routine) (m : ℕ) (to : Place) (h : Hunt) (i : ℕ) : Type 0 where
  pub trailed : Trailed h
  pub some : 0 < h.count
  pub first : place_at h 0 ≡ to
  pub inside : (e : ℕ) → e < h.count → (place_at h e).scalar < r.scalars
  pub leads : (e : ℕ) → 0 < e → e < h.count → ((entry_at h e).next < e) × Moves r (place_at h e) (place_at h (entry_at h e).next)
  pub met : (e : ℕ) → e < i → (p k : ℕ) → k < r.scalars → MetAt r h (place_at h e) p k
  pub barren : (e : ℕ) → e < i → (o : Origin) → Begins r m (place_at h e) o → ⊥

-- From one entry on to the next, down to entry 0.
pub record Followed (h : Hunt) (from : ℕ) (x : Path) : Type 0 where
  pub some : 0 < x.count
  pub few : x.count ≤ from + 1
  pub begins : step_of x 0 ≡ place_at h from
  pub steps :
      (j : ℕ)
      → j + 1 < x.count
      → (e : ℕ) × (0 < e) × (e < h.count) × (step_of x j ≡ place_at h e) × (step_of x (j + 1) ≡ place_at h (entry_at h e).next)
  pub ends : step_of x (x.count - 1) ≡ place_at h 0

-- Each entry leads on to one before it.
pub record Falling (h : Hunt) : Type 0 where
  pub long : length h.entries ≡ 3096
  pub few : h.count ≤ 3096
  pub falls : (e : ℕ) → 0 < e → e < h.count → (entry_at h e).next < e
