use Rattle.std.proofs.Common.{◌≡◌, ◌-◌, ◌++◌, string_bytes}
use Rattle.settings.specs.Names.{owner_numbers, all_numbers}
use Rattle.settings.proofs.owner_names.owner_numbers.Given as goal

-- the numbers so far, with those to come, are all
abbrev pub invariant-loop-owner : goal.invariant-loop-owner
invariant-loop-owner l = string_bytes l.out ++ owner_numbers l.first l.left l.owner-counter (16 - l.owner-counter) ≡ all_numbers l.set
