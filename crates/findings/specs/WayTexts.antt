-- The way of a start name to the operand that leaks it, node by node.
use Rattle.std.specs.Prelude.{ℕ, zero, suc, ◌+◌, cond, List, [], ◌∷◌, ◌++◌, codes, decimal}
use Rattle.rules.specs.declared.Node.{Node}
use Rattle.rules.specs.Routine.{Routine, node, sets}
use Rattle.path.specs.declared.place.Path.{Path}
use Rattle.path.specs.declared.place.Origin.{Origin}
use Rattle.path.specs.declared.place.Origin.TheVariants.{Start, Read}
use Rattle.path.specs.Ways.{step_of}
use Rattle.texts.specs.Layouts.{set_right}
use Rattle.texts.specs.Words.{node_letter, node_words}

-- node p: number, letter, and what it does
abbrev pub way_row : ℕ → Node → List ℕ
way_row p n = set_right 4 p ++ (codes "  " ++ (node_letter n ++ (codes "  " ++ (node_words n ++ (10 ∷ [])))))

module _ (r : Routine) where
  -- the node at place i of the way, if it sets the scalar of the next place; one that keeps it has no row
  abbrev pub step_row : Path → ℕ → List ℕ
  step_row x i =
      cond (sets (node r (step_of x i).point) (step_of x (i + 1)).scalar) (way_row (step_of x i).point (node r (step_of x i).point)) []

  -- the rows of n steps from place i on
  abbrev pub steps_text : Path → ℕ → ℕ → List ℕ
  steps_text x i zero = []
  steps_text x i (suc n) = step_row x i ++ steps_text x (i + 1) n

  -- where start name m comes from: a scalar at the start, or the node that reads the array
  abbrev pub origin_text : ℕ → Origin → List ℕ
  origin_text m Start = codes "start    scalar " ++ (decimal m ++ (10 ∷ []))
  origin_text m (Read p) = way_row p (node r p)
