use Rattle.std.proofs.Common.{◌≡◌, ℕ, ◌+◌, ◌-◌, ◌≤◌, List, take, replicate, ap, ◌∙◌, subst, arith}
use lib.ListN.{length-replicate}
use Rattle.std.proofs.lemmas.List.{take-replicate}
use Rattle.rules.specs.Standing.{baseline}
use Rattle.levels.specs.declared.secrecy.Secrecy.{Secrecy}
use Rattle.levels.specs.declared.secrecy.Secrecy.TheVariants.{Public}
use Rattle.levels.specs.Secrecy.{secrecy_order}
use Rattle.listing.specs.declared.parts.Listing.{Listing}
use Rattle.clearance.specs.Outcomes.{Outcome}
use Rattle.clearance.specs.Examinations.{RightOutcome}
use Rattle.clearance.specs.Scenes.{Scene, scene, setting, Fitting}
use Rattle.probe.specs.Probes.{public_scene}
use Rattle.probe.proofs.stepping.public_exam.Goals as goal

abbrev names : Listing → ℕ
names t = t.counts.scalars + t.counts.arrays

abbrev by_table : Listing → List Secrecy → Scene Secrecy
by_table t xs = scene secrecy_order baseline t xs Public

-- the front of a table of public levels
front : (t u : Listing) → u ≡ t → names u ≤ 32 → take (names u - 0) (replicate 32 Public) ≡ replicate (names t) Public
front t u e h =
    let z : names u - 0 ≡ names u = omega arith in
    ap (λ n. take n (replicate 32 Public)) z ∙ take-replicate (names u) 32 Public h ∙ ap (λ v. replicate (names v) Public) e

-- an outcome by one table is that by the other
moved :
    (t : Listing) (o : Outcome) (xs : List Secrecy)
    → xs ≡ replicate (names t) Public
    → (Fitting (by_table t xs) → RightOutcome (setting (by_table t xs)) o)
    → RightOutcome (setting (public_scene t)) o
moved t o xs e h =
    subst (λ ys. Fitting (by_table t ys) → RightOutcome (setting (by_table t ys)) o) e h (length-replicate (names t) Public)

pub returns : goal.returns
returns c =
    let t = c.args.routine.listing in
    let u = c.listing.result.now in
    let sound = c.listing.ensures.sound in
    let few : names u ≤ 32 = omega (arith, sound.formed.few_scalars, sound.few_arrays) in
    record {
      keeps = c.examine.ensures.keeps.0;
      right = moved t c.examine.result.outcome _ (front t u c.listing.ensures.is few) c.examine.ensures.tells.right_outcome;
    }
