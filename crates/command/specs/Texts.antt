-- What is wrong with a call, in words.
use Rattle.std.specs.Prelude.{ℕ, zero, suc, List, [], ◌∷◌, ◌++◌, string_bytes, codes, String}
use Rattle.command.specs.declared.calling.CallFault.{CallFault}
use Rattle.command.specs.declared.calling.CallFault.TheVariants.{NoCommand, UnknownCommand, WordAfterHelp, UnknownOption, Repeated, NoValue, NoFile, SecondFile, Missing}
use Rattle.command.specs.Words.{option_word}

-- the word at place p; nothing past the last
unfoldable pub word_in : {H : Type 0} → List (String H) → ℕ → List ℕ
word_in [] p = []
word_in (w ∷ ws) zero = string_bytes w
word_in (w ∷ ws) (suc p) = word_in ws p

abbrev pub fault_text : {H : Type 0} → List (String H) → CallFault → List ℕ
fault_text ws NoCommand = codes "no command"
fault_text ws UnknownCommand = codes "there is no command '" ++ (word_in ws 0 ++ codes "'")
fault_text ws WordAfterHelp = word_in ws 0 ++ (codes " stands alone, without '" ++ (word_in ws 1 ++ codes "'"))
fault_text ws (UnknownOption p) = word_in ws 0 ++ (codes " has no option '" ++ (word_in ws p ++ codes "'"))
fault_text ws (Repeated o) = option_word o ++ codes " is given twice"
fault_text ws (NoValue o) = option_word o ++ codes " wants a value"
fault_text ws NoFile = word_in ws 0 ++ codes " wants a file"
fault_text ws (SecondFile p) = word_in ws 0 ++ (codes " takes one file, and not '" ++ (word_in ws p ++ codes "' too"))
fault_text ws (Missing o) = word_in ws 0 ++ (codes " wants " ++ option_word o)
