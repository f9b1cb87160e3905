-- What a clearing finds of a listing, and its record.
use Rattle.std.specs.Prelude.{◌≡◌, ℕ, ◌+◌, ◌⊎◌, List, [], ◌∷◌, ◌++◌, length, Some, None, Ok, Err, string_bytes, codes, decimal, Option, Result, String, ⊤}
use Rattle.rules.specs.Order.{Order}
use Rattle.listing.specs.declared.faults.RoutineFault.{RoutineFault}
use Rattle.listing.specs.declared.parts.Counts.{Counts}
use Rattle.listing.specs.declared.parts.Listing.{Listing}
use Rattle.listing.specs.Faults.{refusal_of}
use Rattle.listing.specs.Forms.{routine_of}
use Rattle.listing.specs.Reading.{listing_read}
use Rattle.clearance.specs.declared.leak.LeakSite.{LeakSite}
use Rattle.clearance.specs.declared.outcome.ClearFault.TheVariants as fault
use Rattle.clearance.specs.Outcomes.{Outcome}
use Rattle.clearance.specs.Examinations.{RightOutcome}
use Rattle.clearance.specs.Scenes.{scene, setting, Fitting}
use Rattle.path.specs.declared.place.Path.{Path}
use Rattle.path.specs.LeakWays.{LeakWay}
use Rattle.texts.specs.Refusals.{refusal_text}
use Rattle.findings.specs.declared.finding.NotCleared.{NotCleared}
use Rattle.findings.specs.declared.finding.NotCleared.TheVariants.{Leaking, Refused, NoMemory}
use Rattle.settings.specs.declared.model.Layered.{Layered}
use Rattle.settings.specs.Models.{base_leakage, layered}
use Rattle.findings.specs.Who.{who_text}
use Rattle.findings.specs.Leaks.{site_text, way_text}

-- why a table of n levels is refused
abbrev pub table_text : Counts → ℕ → List ℕ
table_text c n =
    codes "refusal 10" ++ (10 ∷ (codes "The table has " ++ (decimal n ++ (codes " levels, and " ++ (decimal (c.scalars + c.arrays) ++ (codes " are wanted: " ++ (decimal c.scalars ++ (codes " for the scalars and " ++ (decimal c.arrays ++ (codes " for the arrays." ++ (10 ∷ [])))))))))))

abbrev pub cleared_text : List ℕ
cleared_text = 10 ∷ (codes "cleared" ++ (10 ∷ []))

-- the way, if there is one
abbrev pub way_part : Listing → LeakSite → Option Path → List ℕ
way_part t x None = []
way_part t x (Some p) = way_text (routine_of t) x p

-- the way of a leak, if there is one
abbrev pub WayTold : Listing → LeakSite → List ℕ → Type 0
WayTold t x text = (w : Option Path) × LeakWay (routine_of t) (Err (fault.Leak x)) w × (text ≡ way_part t x w)

-- what is printed of a leak: its place, its reason, and a way
abbrev pub LeakTold : {L : Type 0} → (L → List ℕ) → Order L → List ℕ → List L → L → Listing → LeakSite → List ℕ → Type 0
LeakTold named o bytes levels listener t x text =
    (w : Option Path) × LeakWay (routine_of t) (Err (fault.Leak x)) w × (text ≡ site_text named o t bytes levels listener x ++ way_part t x w)

module _ {L : Type 0} (named : L → List ℕ) (told : List ℕ) (o : Order L) (bytes : List ℕ) (m : Layered) (levels : List L) (listener : L) where
  abbrev pub heading : Listing → List ℕ
  heading t = who_text named told m t.counts.scalars levels listener

  -- the text says what the outcome is; nothing is said where there is no memory
  abbrev pub Told : {H : Type 0} → Listing → Outcome → Result (String H) NotCleared → Type 0
  Told t (Ok u) (Ok text) = string_bytes text ≡ heading t ++ cleared_text
  Told t (Ok u) (Err (Leaking text)) = ⊥
  Told t (Ok u) (Err (Refused text)) = ⊥
  Told t (Ok u) (Err NoMemory) = ⊤
  Told t (Err fault.TableLength) (Ok text) = ⊥
  Told t (Err fault.TableLength) (Err (Leaking text)) = ⊥
  Told t (Err fault.TableLength) (Err (Refused text)) = string_bytes text ≡ table_text t.counts (length levels)
  Told t (Err fault.TableLength) (Err NoMemory) = ⊤
  Told t (Err (fault.Leak x)) (Ok text) = ⊥
  Told t (Err (fault.Leak x)) (Err (Leaking text)) =
      (leak : List ℕ) × LeakTold named o bytes levels listener t x leak × (string_bytes text ≡ heading t ++ leak)
  Told t (Err (fault.Leak x)) (Err (Refused text)) = ⊥
  Told t (Err (fault.Leak x)) (Err NoMemory) = ⊤

  -- why the listing does not load
  abbrev pub RefusedSo : {H : Type 0} → RoutineFault → Result (String H) NotCleared → Type 0
  RefusedSo e (Ok text) = ⊥
  RefusedSo e (Err (Leaking text)) = ⊥
  RefusedSo e (Err (Refused text)) = string_bytes text ≡ refusal_text bytes (refusal_of e)
  RefusedSo e (Err NoMemory) = ⊤

  -- the outcome of clearing a listing is that of the rules; where the table has another length, it says so
  pub record OutcomeIs (t : Listing) (x : Outcome) : Type 0 where
    pub wrong_length : (Fitting (scene o (layered m.timed (base_leakage m.base)) t levels listener) → ⊥) → x ≡ Err fault.TableLength
    pub right :
        Fitting (scene o (layered m.timed (base_leakage m.base)) t levels listener)
        → RightOutcome (setting (scene o (layered m.timed (base_leakage m.base)) t levels listener)) x

  -- the bytes load as a listing, and the record tells the outcome of clearing it; or it tells why they do not load
  abbrev pub Found : {H : Type 0} → Result (String H) NotCleared → Type 0
  Found f =
      ((t : Listing) × (x : Outcome) × (listing_read bytes ≡ Ok t) × OutcomeIs t x × Told t x f)
      ⊎ ((e : RoutineFault) × (listing_read bytes ≡ Err e) × RefusedSo e f)
