-- What a block is.
use Rattle.std.specs.Prelude.{◌≡◌, ℕ, suc, ◌+◌, ◌<◌, List}
use Rattle.rules.specs.Routine.{node_in}
use Rattle.rules.specs.declared.Node.{Node}
use Rattle.rules.specs.declared.Node.TheVariants.{Constant, Move, Operate, Select, Read, Write, If, Else, EndIf, While, EndWhile}

-- A node that is a statement by itself.
abbrev pub Plain : Node → Type 0
Plain (Constant d v) = Unit {0}
Plain (Move d a) = Unit {0}
Plain (Operate d op a b) = Unit {0}
Plain (Select d c a b) = Unit {0}
Plain (Read d t i) = Unit {0}
Plain (Write t i v) = Unit {0}
Plain (If c e) = ⊥
Plain (Else f) = ⊥
Plain (EndIf i) = ⊥
Plain (While c j) = ⊥
Plain (EndWhile h) = ⊥

-- The nodes from p to before q are a block at depth m: any number of statements, each of them plain, or an if, a block, its else, a block and its end,
-- or a while, a block and its end. An if and a while count one each, down to depth 16.
pub data Block (ns : List Node) : ℕ → ℕ → ℕ → Type 0 where
  done : {m p : ℕ} → Block ns m p p
  statement : {m p q : ℕ} → Plain (node_in ns p) → Block ns m (p + 1) q → Block ns m p q
  branch :
      {m p e f q : ℕ} (c : ℕ)
      → m < 16
      → node_in ns p ≡ If c e
      → Block ns (suc m) (p + 1) e
      → node_in ns e ≡ Else f
      → Block ns (suc m) (e + 1) f
      → node_in ns f ≡ EndIf p
      → Block ns m (f + 1) q
      → Block ns m p q
  loop :
      {m p j q : ℕ} (c : ℕ)
      → m < 16
      → node_in ns p ≡ While c j
      → Block ns (suc m) (p + 1) j
      → node_in ns j ≡ EndWhile p
      → Block ns m (j + 1) q
      → Block ns m p q
