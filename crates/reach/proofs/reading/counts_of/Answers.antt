use Rattle.std.proofs.Common.{sym, ap, ◌∙◌, subst}
use Rattle.listing.specs.declared.parts.Counts.{Counts}
use Rattle.listing.specs.declared.parts.Listing.{Listing}
use Rattle.reach.specs.Limits.{WithinLimits}
use Rattle.reach.proofs.Loaded.{limits_of, end_of}
use Rattle.reach.proofs.reading.counts_of.Goals as goal

pub returns : goal.returns
returns c =
    let e = ap (λ (l : Listing). l.counts) c.listing.ensures.is in
    record {
      is = e;
      within = subst WithinLimits (sym e) (limits_of c.args.routine.now);
      ends = ap (λ (k : Counts). k.nodes) e ∙ sym (end_of c.args.routine.now);
    }
