use Rattle.std.proofs.Common.{◌≡◌, ◌++◌, drop, string_bytes}
use Rattle.texts.specs.Escapes.{escaped_text}
use Rattle.texts.proofs.escape.escape.Given as goal

-- what is shown, with the rest to come, is the whole
abbrev pub invariant-loop-byte : goal.invariant-loop-byte
invariant-loop-byte l = string_bytes l.out ++ escaped_text (drop l.byte-index l.bytes) ≡ escaped_text l.bytes
