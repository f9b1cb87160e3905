use Rattle.std.proofs.Common.{◌≡◌, ◌+◌, ◌<◌, ◌≤◌, length, sym, ap, ◌∙◌, arith}
use Rattle.levels.specs.Names.{has}
use Rattle.levels.specs.Tables.{start_level}
use Rattle.listing.specs.declared.parts.Counts.{Counts}
use Rattle.listing.specs.Forms.{routine_of}
use Rattle.reach.specs.Table.{cell}
use Rattle.reach.proofs.Loaded.{end_of, arrays_of}
use Rattle.rules.specs.Routine.{arrays, end}
use Rattle.rules.specs.Clearance.{joined}
use Rattle.clearance.proofs.Tellings.{least_level}
use Rattle.clearance.proofs.least.level_at.Goals as goal

pub returns : goal.returns
returns g c =
    let o = g.L.Level.order in
    let x = c.args.routine.now in
    let levels = c.args.levels.now in
    let p = c.args.point in
    let k = c.args.scalar in
    let t = c.reach.result in
    let same = c.counts_of-counts.ensures.is in
    let fits : length levels ≡ x.listing.counts.scalars + x.listing.counts.arrays =
    c.if-levels-names.false ∙ ap (λ (n : Counts). n.scalars + n.arrays) same in
    let point : p ≤ x.listing.counts.nodes = omega (arith, ap (λ (n : Counts). n.nodes) same, c.if-point-counts.false) in
    let scalar : k < x.listing.counts.scalars = omega (arith, ap (λ (n : Counts). n.scalars) same, c.if-scalar-counts.false) in
    let inside : p ≤ end (routine_of x.listing) = rw (end_of x) point in
    let long : length levels ≡ x.listing.counts.scalars + arrays (routine_of x.listing) =
    fits ∙ ap (λ a. x.listing.counts.scalars + a) (sym (arrays_of x)) in (
      record { fits = fits; point = point; scalar = scalar },
      λ bit exact.
          c.join_of.ensures ∙ ap (λ s. joined o (start_level o levels) (has s) (length levels)) c.names.ensures
          ∙ ap (joined o (start_level o levels) (has (cell t p k))) long
          ∙ least_level o (routine_of x.listing) (start_level o levels) t bit c.reach.ensures exact p k inside scalar,
    )
