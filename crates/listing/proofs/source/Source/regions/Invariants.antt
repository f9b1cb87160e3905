use Rattle.std.proofs.Common.{◌≡◌, ◌-◌, ◌≤◌, replicate}
use Rattle.listing.specs.Reading.{regions_scan}
use Rattle.listing.specs.Forms.{no_region}
use Rattle.listing.proofs.source.Source.regions.Given as goal

abbrev pub invariant-loop-number : goal.invariant-loop-number
invariant-loop-number l =
    (l.end ≤ 512)
    × (regions_scan l.self.bytes.now l.number-end 0 0 (replicate 8 no_region) ≡ regions_scan l.self.bytes.now (l.number-end - l.number) l.number l.end l.regions)
