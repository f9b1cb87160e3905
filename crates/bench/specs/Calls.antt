-- What the words of a call ask for.
use Rattle.std.specs.Prelude.{ℕ, cond, List, Some, None, Ok, Err, codes, Option, Result, ◌==◌, nat_lt}
use Rattle.std.specs.Str.{bytes_eq}
use Rattle.bench.specs.declared.arguments.Misuse.{Misuse}
use Rattle.bench.specs.declared.arguments.Misuse.TheVariants.{NoCommand, UnknownCommand, WordAfterHelp, NoFile, SecondFile}
use Rattle.bench.specs.declared.arguments.OptionName.{OptionName}
use Rattle.bench.specs.declared.arguments.OptionName.TheVariants.{Levels, Order, Listener, Model}
use Rattle.bench.specs.declared.arguments.Verb.{Verb}
use Rattle.bench.specs.declared.arguments.Verb.TheVariants.{Help, Show, Clear}

-- the verb that a word names
abbrev pub verb_of : List ℕ → Option Verb
verb_of s =
    cond (bytes_eq s (codes "show")) (Some Show)
    (cond (bytes_eq s (codes "clear")) (Some Clear)
    (cond (bytes_eq s (codes "help")) (Some Help)
    (cond (bytes_eq s (codes "--help")) (Some Help)
    (cond (bytes_eq s (codes "-h")) (Some Help) None))))

-- the option that a word names
abbrev pub option_of : List ℕ → Option OptionName
option_of s =
    cond (bytes_eq s (codes "--levels")) (Some Levels)
    (cond (bytes_eq s (codes "--order")) (Some Order)
    (cond (bytes_eq s (codes "--listener")) (Some Listener)
    (cond (bytes_eq s (codes "--model")) (Some Model) None)))

-- a call of n words, at least one, the first of which names v
abbrev pub verb_call : ℕ → Option Verb → Result Verb Misuse
verb_call n None = Err UnknownCommand
verb_call n (Some Help) = cond (nat_lt 1 n) (Err WordAfterHelp) (Ok Help)
verb_call n (Some Show) = cond (nat_lt n 2) (Err NoFile) (cond (nat_lt 2 n) (Err SecondFile) (Ok Show))
verb_call n (Some Clear) = Ok Clear

abbrev pub call_of : ℕ → Option Verb → Result Verb Misuse
call_of n v = cond (n == 0) (Err NoCommand) (verb_call n v)
