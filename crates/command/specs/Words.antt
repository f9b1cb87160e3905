-- The words that a call knows.
use Rattle.std.specs.Prelude.{ℕ, Bool, true, false, cond, ◌&&◌, ◌||◌, List, [], ◌∷◌, Some, None, codes, Option, ◌==◌}
use Rattle.std.specs.Str.{bytes_eq}
use Rattle.command.specs.declared.words.OptionName.{OptionName}
use Rattle.command.specs.declared.words.OptionName.TheVariants.{Levels, Order, Listener, Model, Values, Other, Steps, Lines}
use Rattle.command.specs.declared.words.Verb.{Verb}
use Rattle.command.specs.declared.words.Verb.TheVariants.{Show, Clear, Run, Twin}

abbrev pub is_help : List ℕ → Bool
is_help s = bytes_eq s (codes "help") || (bytes_eq s (codes "--help") || bytes_eq s (codes "-h"))

-- the verb that a word names
abbrev pub verb_of : List ℕ → Option Verb
verb_of s =
    cond (bytes_eq s (codes "show")) (Some Show)
    (cond (bytes_eq s (codes "clear")) (Some Clear)
    (cond (bytes_eq s (codes "run")) (Some Run)
    (cond (bytes_eq s (codes "twin")) (Some Twin) None)))

-- an option as it is written
abbrev pub option_word : OptionName → List ℕ
option_word Levels = codes "--levels"
option_word Order = codes "--order"
option_word Listener = codes "--listener"
option_word Model = codes "--model"
option_word Values = codes "--values"
option_word Other = codes "--other"
option_word Steps = codes "--steps"
option_word Lines = codes "--lines"

-- the option that a word names
abbrev pub option_of : List ℕ → Option OptionName
option_of s =
    cond (bytes_eq s (option_word Levels)) (Some Levels)
    (cond (bytes_eq s (option_word Order)) (Some Order)
    (cond (bytes_eq s (option_word Listener)) (Some Listener)
    (cond (bytes_eq s (option_word Model)) (Some Model)
    (cond (bytes_eq s (option_word Values)) (Some Values)
    (cond (bytes_eq s (option_word Other)) (Some Other)
    (cond (bytes_eq s (option_word Steps)) (Some Steps)
    (cond (bytes_eq s (option_word Lines)) (Some Lines) None)))))))

-- the word begins with two dashes
abbrev pub is_dashed : List ℕ → Bool
is_dashed [] = false
is_dashed (a ∷ []) = false
is_dashed (a ∷ b ∷ s) = a == 45 && b == 45

-- which options a verb has
abbrev pub takes : Verb → OptionName → Bool
takes Show o = false
takes Clear Levels = true
takes Clear Order = true
takes Clear Listener = true
takes Clear Model = true
takes Clear Values = false
takes Clear Other = false
takes Clear Steps = false
takes Clear Lines = false
takes Run Levels = true
takes Run Order = true
takes Run Listener = true
takes Run Model = true
takes Run Values = true
takes Run Other = false
takes Run Steps = true
takes Run Lines = true
takes Twin Levels = true
takes Twin Order = true
takes Twin Listener = true
takes Twin Model = true
takes Twin Values = true
takes Twin Other = true
takes Twin Steps = true
takes Twin Lines = false
