-- The verdict on level digits and a listing, by the rules.
use Rattle.std.specs.Prelude.{◌≡◌, ℕ, ◌<◌, ◌≤◌, min, List, map, length, Some, None, Ok, Err, Option, Result}
use Rattle.levels.specs.declared.secrecy.Secrecy.{Secrecy}
use Rattle.levels.specs.declared.secrecy.Secrecy.TheVariants.{Public}
use Rattle.levels.specs.Secrecy.{secrecy_order}
use Rattle.rules.specs.Standing.{baseline}
use Rattle.rules.specs.Clearance.{Setting, Cleared}
use Rattle.rules.specs.Clearance.{Leak as NamedLeak}
use Rattle.listing.specs.declared.parts.Listing.{Listing}
use Rattle.listing.specs.declared.faults.RoutineFault.{RoutineFault}
use Rattle.listing.specs.declared.faults.Rule.TheVariants as rule
use Rattle.listing.specs.Faults.{refused, refusal_of}
use Rattle.clearance.specs.Bounds.{bound_number}
use Rattle.listing.specs.Reading.{listing_read}
use Rattle.lines.specs.Text.{over}
use Rattle.clearance.specs.Scenes.{Scene, scene, setting, Fitting}
use Rattle.verdict.specs.declared.slip.Slip.{Slip}
use Rattle.verdict.specs.declared.slip.Slip.TheVariants.{Clear, Leak, Refused}
use Rattle.verdict.specs.Digits.{first_wrong, level_of}
use Rattle.verdict.specs.Slips.{slip_text}

-- Two levels, a public listener and the baseline.
abbrev pub bench_scene : List ℕ → Listing → Scene Secrecy
bench_scene ds t = scene secrecy_order baseline t (map level_of ds) Public

-- Of a table that fits: CLEAR where some typing table meets the rules, LEAK with the leak that they name.
abbrev pub RightSlip : Setting Secrecy → Slip → Type 0
RightSlip c Clear = Cleared c
RightSlip c (Leak s) = NamedLeak c s.node s.operand (bound_number s.bound) s.name
RightSlip c (Refused r) = ⊥

-- Of a listing that loads: 10 where the table does not fit, else by the rules.
pub record ExaminedSlip (ds : List ℕ) (t : Listing) (x : Slip) : Type 0 where
  pub wrong_length : (Fitting (bench_scene ds t) → ⊥) → x ≡ Refused (refused rule.TableLength 0 0)
  pub right_slip : Fitting (bench_scene ds t) → RightSlip (setting (bench_scene ds t)) x

-- Load's refusal, or what came of the examination.
abbrev pub LoadedSlip : List ℕ → Result Listing RoutineFault → Slip → Type 0
LoadedSlip ds (Err f) x = x ≡ Refused (refusal_of f)
LoadedSlip ds (Ok t) x = ExaminedSlip ds t x

-- 17 at the first byte that is no level digit, before loading; else by the listing.
abbrev pub DigitsSlip : List ℕ → List ℕ → Option ℕ → Slip → Type 0
DigitsSlip ds s (Some p) x = x ≡ Refused (refused rule.Digit (min p 4294967295) 0)
DigitsSlip ds s None x = LoadedSlip ds (listing_read s) x

-- The slip x is the verdict on the level digits ds and the listing s.
abbrev pub Judged : List ℕ → List ℕ → Slip → Type 0
Judged ds s x = DigitsSlip ds s (first_wrong 0 ds) x

-- What the call leaves in its room and answers: 16 and the room as it was where it is shorter than a slip; else 0, and the slip in its first 53
-- bytes, the rest as it was.
pub record Answered (ds s room left : List ℕ) (answer : ℕ) : Type 0 where
  pub no_room : length room < 53 → (answer ≡ 16) × (left ≡ room)
  pub written : 53 ≤ length room → (answer ≡ 0) × ((x : Slip) × Judged ds s x × (left ≡ over 0 (slip_text x) room))
