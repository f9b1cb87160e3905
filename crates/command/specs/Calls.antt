-- What the words of a call ask for.
use Rattle.std.specs.Prelude.{ℕ, ◌+◌, cond, List, [], ◌∷◌, Some, None, Ok, Err, string_bytes, Option, Result, String}
use Rattle.command.specs.declared.calling.Call.{Call}
use Rattle.command.specs.declared.calling.Call.TheVariants.{Help, On}
use Rattle.command.specs.declared.calling.CallFault.{CallFault}
use Rattle.command.specs.declared.calling.CallFault.TheVariants.{NoCommand, UnknownCommand, WordAfterHelp, UnknownOption, Repeated, NoValue, NoFile, SecondFile, Missing}
use Rattle.command.specs.declared.draft.Draft.{Draft}
use Rattle.command.specs.declared.words.OptionName.{OptionName}
use Rattle.command.specs.declared.words.Verb.{Verb}
use Rattle.command.specs.Options.{no_options, given, with_option, missing}
use Rattle.command.specs.Words.{is_help, verb_of, option_of, is_dashed, takes}

abbrev pub empty_draft : Draft
empty_draft = record { file = None; options = no_options; pending = None }

-- a draft, or the fault of an option that is given already
abbrev pub unless_repeated : OptionName → Option ℕ → Draft → Result Draft CallFault
unless_repeated o None d = Ok d
unless_repeated o (Some q) d = Err (Repeated o)

-- an option at place p, whose value comes next
abbrev pub take_option : Verb → OptionName → ℕ → Draft → Result Draft CallFault
take_option v o p d =
    cond (takes v o)
    (unless_repeated o (given o d.options) (record { file = d.file; options = d.options; pending = Some o }))
    (Err (UnknownOption p))

-- the file at place p, if there is none yet
abbrev pub take_file : ℕ → Option ℕ → Draft → Result Draft CallFault
take_file p None d = Ok (record { file = Some p; options = d.options; pending = None })
take_file p (Some q) d = Err (SecondFile p)

-- a word that is no option
abbrev pub take_plain : List ℕ → ℕ → Draft → Result Draft CallFault
take_plain s p d = cond (is_dashed s) (Err (UnknownOption p)) (take_file p d.file d)

abbrev pub by_option : Option OptionName → Verb → List ℕ → ℕ → Draft → Result Draft CallFault
by_option None v s p d = take_plain s p d
by_option (Some o) v s p d = take_option v o p d

-- a word where an option waits for its value, or none does
abbrev pub by_pending : Option OptionName → Verb → List ℕ → ℕ → Draft → Result Draft CallFault
by_pending (Some o) v s p d = Ok (record { file = d.file; options = with_option o p d.options; pending = None })
by_pending None v s p d = by_option (option_of s) v s p d

-- the word s at place p
abbrev pub take_word : Verb → List ℕ → ℕ → Draft → Result Draft CallFault
take_word v s p d = by_pending d.pending v s p d

-- one answer after another: the first fault stands
abbrev pub and_then : {A B : Type 0} → Result A CallFault → (A → Result B CallFault) → Result B CallFault
and_then (Ok a) f = f a
and_then (Err e) f = Err e

-- the words from place p on
abbrev pub read_words : {H : Type 0} → Verb → ℕ → List (String H) → Draft → Result Draft CallFault
read_words v p [] d = Ok d
read_words v p (w ∷ ws) d = and_then (take_word v (string_bytes w) p d) (λ e. read_words v (p + 1) ws e)

abbrev pub unless_missing : Option OptionName → Call → Result Call CallFault
unless_missing None c = Ok c
unless_missing (Some o) c = Err (Missing o)

abbrev pub with_file : Option ℕ → Verb → Draft → Result Call CallFault
with_file None v d = Err NoFile
with_file (Some f) v d = unless_missing (missing v d.options) (On v f d.options)

abbrev pub unless_pending : Option OptionName → Verb → Draft → Result Call CallFault
unless_pending (Some o) v d = Err (NoValue o)
unless_pending None v d = with_file d.file v d

-- the call, once all its words are read: no option waits for its value, there is a file, and no option is missing
abbrev pub finished : Verb → Draft → Result Call CallFault
finished v d = unless_pending d.pending v d

-- help stands alone
abbrev pub help_call : {H : Type 0} → List (String H) → Result Call CallFault
help_call [] = Ok Help
help_call (w ∷ ws) = Err WordAfterHelp

abbrev pub verb_call : {H : Type 0} → Option Verb → List (String H) → Result Call CallFault
verb_call None ws = Err UnknownCommand
verb_call (Some v) ws = and_then (read_words v 1 ws empty_draft) (finished v)

abbrev pub call_of : {H : Type 0} → List (String H) → Result Call CallFault
call_of [] = Err NoCommand
call_of (w ∷ ws) = cond (is_help (string_bytes w)) (help_call ws) (verb_call (verb_of (string_bytes w)) ws)
