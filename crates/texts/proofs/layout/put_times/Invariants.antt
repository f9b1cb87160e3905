use Rattle.std.proofs.Common.{◌≡◌, ◌-◌, ◌++◌, string_bytes}
use Rattle.texts.specs.Layouts.{times}
use Rattle.texts.proofs.layout.put_times.Given as goal

-- what is added, with the turns to come, is the whole
abbrev pub invariant-loop : goal.invariant-loop
invariant-loop l = string_bytes l.out ++ times (l.count - l.counter) l.text ≡ string_bytes l.initial.out ++ times l.count l.text
