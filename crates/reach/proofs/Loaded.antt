-- What is known of a loaded routine.
use Rattle.std.proofs.Common.{◌≡◌, ℕ, ◌<◌, ◌≤◌, subst, arith}
use Rattle.std.proofs.lemmas.List.{length-take-le}
use Rattle.rules.specs.Routine.{WellFormed, Accepted, OperandsExist, Next, node, region, arrays, end}
use Rattle.listing.specs.declared.routine.Routine.{Routine}
use Rattle.listing.specs.Forms.{routine_of, WellFormedListing}
use Rattle.listing.proofs.Sounds.{sound_formed}
use Rattle.reach.specs.Limits.{WithinLimits}

pub formed_listing : (x : Routine) → WellFormedListing x.listing
formed_listing x = sound_formed x.listing x.holds

pub formed_of : (x : Routine) → WellFormed (routine_of x.listing)
formed_of x = (formed_listing x).formed

pub limits_of : (x : Routine) → WithinLimits x.listing.counts
limits_of x =
    let F = formed_listing x in
    record { scalars = F.formed.few_scalars; arrays = F.few_arrays; nodes = F.few_nodes }

pub end_of : (x : Routine) → end (routine_of x.listing) ≡ x.listing.counts.nodes
end_of x =
    let F = formed_listing x in
    length-take-le x.listing.counts.nodes x.listing.nodes (omega (arith, F.few_nodes, F.all_nodes))

pub arrays_of : (x : Routine) → arrays (routine_of x.listing) ≡ x.listing.counts.arrays
arrays_of x =
    let F = formed_listing x in
    length-take-le x.listing.counts.arrays x.listing.regions (omega (arith, F.few_arrays, F.all_regions))

module _ (x : Routine) (p : ℕ) where
  pub operands_of : p < x.listing.counts.nodes → OperandsExist x.listing.counts.scalars x.listing.counts.arrays (node (routine_of x.listing) p)
  operands_of h =
      subst (λ a. OperandsExist x.listing.counts.scalars a (node (routine_of x.listing) p)) (arrays_of x)
      ((formed_of x).operands p (rw (end_of x) h))

  pub next_of : p < x.listing.counts.nodes → (q : ℕ) → Next (node (routine_of x.listing) p) p q → q ≤ x.listing.counts.nodes
  next_of h q n = subst (λ e. q ≤ e) (end_of x) ((formed_of x).partners p q (rw (end_of x) h) n)

module _ (x : Routine) (t : ℕ) where
  pub accepted_of : t < x.listing.counts.arrays → Accepted (region (routine_of x.listing) t).start (region (routine_of x.listing) t).length
  accepted_of h = (formed_of x).accepted t (rw (arrays_of x) h)
