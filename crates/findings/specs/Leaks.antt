-- A leak: where it is, what leaks, past which bound, and by which way.
use Rattle.std.specs.Prelude.{ℕ, ◌+◌, ◌-◌, ◌*◌, cond, List, [], ◌∷◌, ◌++◌, Some, None, codes, decimal, Option, ◌==◌}
use Rattle.rules.specs.declared.Node.{Node}
use Rattle.rules.specs.declared.Node.TheVariants.{Constant, Move, Operate, Select, Read, Write, If, Else, EndIf, While, EndWhile}
use Rattle.rules.specs.Order.{Order}
use Rattle.rules.specs.Routine.{Routine, node}
use Rattle.levels.specs.Tables.{start_level}
use Rattle.lines.specs.Lines.{part}
use Rattle.listing.specs.declared.parts.Listing.{Listing}
use Rattle.listing.specs.Forms.{routine_of}
use Rattle.clearance.specs.declared.leak.Bound.{Bound}
use Rattle.clearance.specs.declared.leak.Bound.TheVariants.{Listener, Array, Unnamed}
use Rattle.clearance.specs.declared.leak.LeakSite.{LeakSite}
use Rattle.path.specs.declared.place.Path.{Path}
use Rattle.texts.specs.Refusals.{line_shown}
use Rattle.findings.specs.Who.{start_name}
use Rattle.findings.specs.WayTexts.{way_row, steps_text, origin_text}

-- the field of the line that has operand w
abbrev pub operand_field : ℕ → ℕ
operand_field w = cond (w == 1) 2 (cond (w == 2) 3 (cond (w == 3) 4 5))

abbrev pub array_written : Node → Option ℕ
array_written (Constant d v) = None
array_written (Move d a) = None
array_written (Operate d op a b) = None
array_written (Select d c a b) = None
array_written (Read d t i) = None
array_written (Write t i v) = Some t
array_written (If c e) = None
array_written (Else f) = None
array_written (EndIf i) = None
array_written (While c j) = None
array_written (EndWhile h) = None

-- the array whose level is bound b; none where it is the listener's level
abbrev pub bound_array : Bound → Node → Option ℕ
bound_array Listener n = None
bound_array Array n = array_written n
bound_array (Unnamed b) n = array_written n

-- the line of the node, with the operand marked, where there are a arrays
abbrev pub place_text : List ℕ → ℕ → LeakSite → List ℕ
place_text bytes a x =
    10 ∷ (codes "leak at node " ++ (decimal x.node ++ (codes ", operand " ++ (decimal x.operand ++ (10 ∷ line_shown (part (51 * (1 + a + x.node)) 50 bytes) (operand_field x.operand))))))

module _ {L : Type 0} (named : L → List ℕ) (o : Order L) where
  abbrev pub bound_text : ℕ → List L → L → Option ℕ → List ℕ
  bound_text s levels listener None = codes "the listener's level, " ++ named listener
  bound_text s levels listener (Some t) =
      codes "the level of array " ++ (decimal t ++ (codes ", " ++ named (start_level o levels (s + t))))

  -- start name m, its level and the bound
  abbrev pub reason_text : ℕ → List L → L → ℕ → Option ℕ → List ℕ
  reason_text s levels listener m array =
      10 ∷ (codes "What " ++ (start_name s m ++ (codes " holds at the start reaches this operand." ++ (10 ∷ (codes "Its level, " ++ (named (start_level o levels m) ++ (codes ", does not flow to " ++ (bound_text s levels listener array ++ (46 ∷ (10 ∷ []))))))))))

  abbrev pub site_text : Listing → List ℕ → List L → L → LeakSite → List ℕ
  site_text t bytes levels listener x =
      place_text bytes t.counts.arrays x
      ++ reason_text t.counts.scalars levels listener x.name (bound_array x.bound (node (routine_of t) x.node))

-- from where the name comes, the nodes that carry it on, and the node that leaks it
abbrev pub way_text : Routine → LeakSite → Path → List ℕ
way_text r s x =
    10 ∷ (codes "way" ++ (10 ∷ (origin_text r s.name x.origin ++ (steps_text r x 0 (x.count - 1) ++ way_row s.node (node r s.node)))))
