-- What a node does, in words.
use Rattle.std.specs.Prelude.{ℕ, List, [], ◌∷◌, ◌++◌, codes, decimal}
use Rattle.lines.specs.Kinds.{letter_of}
use Rattle.listing.specs.Texts.{node_as_line}
use Rattle.rules.specs.declared.Node.{Node}
use Rattle.rules.specs.declared.Node.TheVariants.{Constant, Move, Operate, Select, Read, Write, If, Else, EndIf, While, EndWhile}
use Rattle.rules.specs.declared.Operator.{Operator}
use Rattle.rules.specs.declared.Operator.TheVariants.{Sum, Difference, Product, And, Or, ExclusiveOr, LeftShift, RightShift, Quotient, Remainder, Less, Equal}

-- the letter of the line that the listing has for the node
abbrev pub node_letter : Node → List ℕ
node_letter n = letter_of (node_as_line 0 n).kind ∷ []

abbrev pub operator_sign : Operator → List ℕ
operator_sign Sum = codes "+"
operator_sign Difference = codes "-"
operator_sign Product = codes "*"
operator_sign And = codes "and"
operator_sign Or = codes "or"
operator_sign ExclusiveOr = codes "xor"
operator_sign LeftShift = codes "<<"
operator_sign RightShift = codes ">>"
operator_sign Quotient = codes "/"
operator_sign Remainder = codes "%"
operator_sign Less = codes "<"
operator_sign Equal = codes "="

abbrev pub scalar : ℕ → List ℕ
scalar k = codes "scalar " ++ decimal k

-- element i of array t, and then the rest
abbrev pub element : ℕ → ℕ → List ℕ → List ℕ
element t i rest = codes "array " ++ (decimal t ++ (codes " [ " ++ (scalar i ++ (codes " ]" ++ rest))))

abbrev pub becomes : List ℕ
becomes = codes " := "

abbrev pub node_words : Node → List ℕ
node_words (Constant d v) = scalar d ++ (becomes ++ decimal v)
node_words (Move d a) = scalar d ++ (becomes ++ scalar a)
node_words (Operate d op a b) = scalar d ++ (becomes ++ (scalar a ++ (codes " " ++ (operator_sign op ++ (codes " " ++ scalar b)))))
node_words (Select d c a b) =
    scalar d ++ (becomes ++ (codes "if " ++ (scalar c ++ (codes " then " ++ (scalar a ++ (codes " else " ++ scalar b))))))
node_words (Read d t i) = scalar d ++ (becomes ++ element t i [])
node_words (Write t i v) = element t i (becomes ++ scalar v)
node_words (If c e) = codes "if " ++ scalar c
node_words (Else f) = codes "else"
node_words (EndIf i) = codes "end if"
node_words (While c j) = codes "while " ++ scalar c
node_words (EndWhile h) = codes "end while"
