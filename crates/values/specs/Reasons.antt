-- What is wrong with a line of values, in one sentence each.
use Rattle.std.specs.Prelude.{ℕ, List, codes}
use Rattle.values.specs.declared.faults.Reason.{Reason}
use Rattle.values.specs.declared.faults.Reason.TheVariants.{UnknownWord, TooFewWords, TooManyWords, NoNumber, NoScalar, NoArray, NoElement, GivenTwice}

abbrev pub reason_sentence : Reason → List ℕ
reason_sentence UnknownWord = codes "A line begins with scalar or with array, or is a comment after #."
reason_sentence TooFewWords = codes "A word is missing: scalar K V, or array J I V."
reason_sentence TooManyWords = codes "A word stands after the value: scalar K V, or array J I V."
reason_sentence NoNumber = codes "A number is decimal, at most 4294967295, without leading zeros."
reason_sentence NoScalar = codes "The routine has no such scalar."
reason_sentence NoArray = codes "The routine has no such array."
reason_sentence NoElement = codes "The array has no such element."
reason_sentence GivenTwice = codes "A line above gives this place a value already."
