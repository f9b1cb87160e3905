use Rattle.std.proofs.Common.{◌≡◌, ◌++◌, drop, string_bytes}
use Rattle.report.specs.Records.{region_rows, regions_table}
use Rattle.report.proofs.record.regions_text.Given as goal

-- what is shown, with the rows to come, is the table
abbrev pub invariant-loop-number : goal.invariant-loop-number
invariant-loop-number l = string_bytes l.out ++ region_rows l.number (drop l.number l.regions) ≡ regions_table l.regions
