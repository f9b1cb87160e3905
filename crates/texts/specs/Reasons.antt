-- Why a listing was refused, in one sentence for each rule and field.
use Rattle.std.specs.Prelude.{ℕ, cond, List, codes, ◌==◌}
use Rattle.listing.specs.declared.faults.Refusal.{Refusal}
use Rattle.listing.specs.declared.faults.Rule.{Rule}
use Rattle.listing.specs.declared.faults.Rule.TheVariants as rule
use Rattle.texts.specs.declared.sentence.Reason.{Reason}
use Rattle.texts.specs.declared.sentence.Reason.TheVariants.{NoWholeLines, NumberColumn, LetterColumn, FirstColumn, SecondColumn, ThirdColumn, FourthColumn, NoNewline, NumberNotDue, LetterNotDue, ManyScalars, ManyArrays, ManyNodes, OtherLines, RegionStart, RegionLength, NoFirst, NoSecond, NoThird, NoFourth, LeftOpen, WrongPart, WrongHead, TooDeep, Other}

-- rule 2: a column that breaks its rule
abbrev pub column_reason : ℕ → Reason
column_reason f =
    cond (f == 0) NumberColumn
    (cond (f == 1) LetterColumn
    (cond (f == 2) FirstColumn
    (cond (f == 3) SecondColumn
    (cond (f == 4) ThirdColumn
    (cond (f == 5) FourthColumn NoNewline)))))

-- rule 3: a line that is not due where it stands
abbrev pub place_reason : ℕ → Reason
place_reason f = cond (f == 0) NumberNotDue LetterNotDue

-- rule 4: a count above its limit
abbrev pub count_reason : ℕ → Reason
count_reason f = cond (f == 2) ManyScalars (cond (f == 3) ManyArrays ManyNodes)

-- rule 6: an array that does not lie where it may
abbrev pub region_reason : ℕ → Reason
region_reason f = cond (f == 2) RegionStart RegionLength

-- rule 7: a name of nothing
abbrev pub name_reason : ℕ → Reason
name_reason f = cond (f == 2) NoFirst (cond (f == 3) NoSecond (cond (f == 4) NoThird NoFourth))

-- rule 8: a part that is not closed as it was opened
abbrev pub block_reason : ℕ → Reason
block_reason f = cond (f == 0) LeftOpen (cond (f == 1) WrongPart WrongHead)

-- by the rule that is broken, at field f
abbrev pub by_rule : Rule → ℕ → Reason
by_rule rule.Shape f = NoWholeLines
by_rule rule.Column f = column_reason f
by_rule rule.Place f = place_reason f
by_rule rule.Count f = count_reason f
by_rule rule.Length f = OtherLines
by_rule rule.Region f = region_reason f
by_rule rule.Name f = name_reason f
by_rule rule.Block f = block_reason f
by_rule rule.Depth f = TooDeep
by_rule rule.TableLength f = Other
by_rule rule.Clearance f = Other
by_rule rule.Array f = Other
by_rule rule.Element f = Other
by_rule rule.Scalar f = Other
by_rule rule.Open f = Other
by_rule rule.Room f = Other
by_rule rule.Digit f = Other
by_rule (rule.Unnamed n) f = Other

abbrev pub reason_of : Refusal → Reason
reason_of r = by_rule r.rule r.field

abbrev pub reason_sentence : Reason → List ℕ
reason_sentence NoWholeLines = codes "The listing is empty, or it is not made of whole lines of 51 bytes."
reason_sentence NumberColumn = codes "The line number is not a decimal number that ends in column 4, after blanks and without leading zeros."
reason_sentence LetterColumn = codes "Columns 5 and 6 are not a blank and one of the letters H A K M O Q R W I E F L J."
reason_sentence FirstColumn = codes "Operand 1 is not a number up to 4294967295 that ends in its last column, after blanks and without leading zeros."
reason_sentence SecondColumn = codes "Operand 2 is not a number up to 4294967295 that ends in its last column, after blanks and without leading zeros, or is not blank where the letter takes none."
reason_sentence ThirdColumn = codes "Operand 3 is not a number up to 4294967295 that ends in its last column, after blanks and without leading zeros, or is not blank where the letter takes none."
reason_sentence FourthColumn = codes "Operand 4 is not a number up to 4294967295 that ends in its last column, after blanks and without leading zeros, or is not blank where the letter takes none."
reason_sentence NoNewline = codes "Column 51 is not a newline."
reason_sentence NumberNotDue = codes "The line number is not the one due here: the header is 0, and arrays and nodes are each numbered from 0."
reason_sentence LetterNotDue = codes "The letter is not one due here: first H, then A for each array, then the nodes."
reason_sentence ManyScalars = codes "The header counts more than 24 scalars."
reason_sentence ManyArrays = codes "The header counts more than 8 arrays."
reason_sentence ManyNodes = codes "The header counts more than 128 nodes."
reason_sentence OtherLines = codes "The listing has more or fewer lines than the header counts: one for the header, each array and each node."
reason_sentence RegionStart = codes "The array starts before the end of the array above it, or past cell 511."
reason_sentence RegionLength = codes "The array's length is 0 or above 256, or the array runs past cell 511."
reason_sentence NoFirst = codes "Operand 1 names a scalar or an array that does not exist."
reason_sentence NoSecond = codes "Operand 2 names a scalar, an array or an operator that does not exist."
reason_sentence NoThird = codes "Operand 3 names a scalar that does not exist."
reason_sentence NoFourth = codes "Operand 4 names a scalar that does not exist."
reason_sentence LeftOpen = codes "A block is still open after the last line."
reason_sentence WrongPart = codes "This else or end does not fit the innermost open part: none is open, it is of another kind, or it named another node."
reason_sentence WrongHead = codes "This end names another node than the head of the part that it ends."
reason_sentence TooDeep = codes "This if or while would be the 17th open at once; at most 16 may be."
reason_sentence Other = codes "The listing is refused."
