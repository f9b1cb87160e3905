-- The theorems, proved.
use Rattle.std.proofs.Common.{ℕ, ◌⊎◌, refl, inl, inr, arith}
use Rattle.rules.specs.declared.Node.{Node}
use Rattle.rules.specs.Order.{Order, Flows, Lawful}
use Rattle.rules.specs.Leakage.{Leakage}
use Rattle.rules.specs.Routine.{Routine}
use Rattle.rules.specs.Reach.{Reaches, Bits, Exact}
use Rattle.rules.specs.Clearance.{Setting, Cleared, Held, bound, SomeLeak, NoViolation, least_table}
use Rattle.rules.specs.Clearance.Held.{if_condition, while_condition, left_operand, right_operand, read_index, write_index, stored_index, stored_value}
use Rattle.rules.specs.Run.{started}
use Rattle.rules.specs.Theorems.{PartialOrder, LeastUpperBound, ClearsExactly, LeastOfTables, LeaksNamed, OpenTold, heard_by, ClearsUpwards, WatchesNoMore, under, ClearsUnderLess, TwoRuns}
use Rattle.rules.proofs.Orders.{flows_trans, flows_refl, flows_both, least_flows, flows_left, flows_right, join_flows}
use Rattle.rules.proofs.Tables.{table_clears, least_typed, least_is_least, least_tells_open}
use Rattle.rules.proofs.Leaks.{leak_or_none, one_lowest}
use Rattle.rules.proofs.Saturation.{reach_exists}
use Rattle.rules.proofs.Runs.{calls_same}

pub partial_order : {L : Type 0} (o : Order L) → Lawful o → PartialOrder o
partial_order o laws =
    record { reflexive = flows_refl o laws; transitive = flows_trans o laws; antisymmetric = flows_both o laws; least_first = least_flows o laws }

pub least_upper_bound : {L : Type 0} (o : Order L) → Lawful o → LeastUpperBound o
least_upper_bound o laws = record { above_left = flows_left o laws; above_right = flows_right o laws; below_others = join_flows o laws }

pub clears_exactly : {L : Type 0} → ClearsExactly L
clears_exactly c laws wf =
    let bits = reach_exists c.labelled.routine wf in
    record {
      table_if_no_violation = λ clear. (least_table c.labelled bits.0, least_typed c laws wf bits.0 bits.1 clear);
      no_violation_if_table = λ t. table_clears c laws wf t.0 t.1;
    }

pub least_of_tables : {L : Type 0} → LeastOfTables L
least_of_tables c laws wf bit exact =
    record {
      meets_rules = λ t. least_typed c laws wf bit exact (table_clears c laws wf t.0 t.1);
      below_others = least_is_least c laws wf bit exact;
      tells_open = least_tells_open c laws wf bit exact;
    }

pub leaks_named : {L : Type 0} → LeaksNamed L
leaks_named {L} c laws wf =
    record {
      table_or_leak = table_or_leak;
      not_both = λ t x. table_clears c laws wf t.0 t.1 x.0 x.1 x.2 x.3 x.4.violation;
      leak_if_no_table = λ none. elim table_or_leak [ inl t ↦ absurd (none t) | inr x ↦ x ];
      only_one = λ p w b m p' w' b' m' x y. one_lowest p w b m p' w' b' m' (x.lowest p' w' b' m' y.violation) (y.lowest p w b m x.violation);
    }
  where
    bits : (bit : Bits) × Exact c.labelled.routine (Reaches c.labelled.routine) bit
    bits = reach_exists c.labelled.routine wf

    go : SomeLeak c ⊎ NoViolation c → Cleared c ⊎ SomeLeak c
    go (inl x) = inr x
    go (inr clear) = inl (least_table c.labelled bits.0, least_typed c laws wf bits.0 bits.1 clear)

    table_or_leak : Cleared c ⊎ SomeLeak c
    table_or_leak = go (leak_or_none c wf bits.0 bits.1)

pub open_told : {L : Type 0} → OpenTold L
open_told c laws wf = let bits = reach_exists c.labelled.routine wf in (_, least_tells_open c laws wf bits.0 bits.1)

-- A bound rises with the listener.
bound_rises :
    {L : Type 0} (c : Setting L) (other : L)
    → Lawful c.labelled.order
    → Flows c.labelled.order c.listener other
    → {l : Leakage} {r : Routine} {n : Node} {w b k : ℕ}
    → Held l r n w b k
    → Flows c.labelled.order (bound c n b) (bound (heard_by c other) n b)
bound_rises c other laws up if_condition = up
bound_rises c other laws up while_condition = up
bound_rises c other laws up (left_operand e) = up
bound_rises c other laws up (right_operand e) = up
bound_rises c other laws up (read_index e) = up
bound_rises c other laws up (write_index e) = up
bound_rises c other laws up stored_index = flows_refl c.labelled.order laws _
bound_rises c other laws up stored_value = flows_refl c.labelled.order laws _

pub clears_upwards : {L : Type 0} → ClearsUpwards L
clears_upwards c laws other up T typed =
    record {
      start = typed.start;
      keeps = typed.keeps;
      takes = typed.takes;
      bounded = λ p w b k h held. flows_trans c.labelled.order laws (T p k) _ _ (typed.bounded p w b k h held) (bound_rises c other laws up held);
    }

-- An operand that a model holds to a bound is held to the same bound by every model that watches no less.
held_more :
    {L : Type 0} (c : Setting L) (other : Leakage)
    → WatchesNoMore other c.model
    → {r : Routine} {n : Node} {w b k : ℕ} (x : L)
    → (Held c.model r n w b k → Flows c.labelled.order x (bound c n b))
    → Held other r n w b k
    → Flows c.labelled.order x (bound (under c other) n b)
held_more c other less x f if_condition = f if_condition
held_more c other less x f while_condition = f while_condition
held_more c other less x f (left_operand e) = f (left_operand (less.operands _ _ e))
held_more c other less x f (right_operand e) = f (right_operand (less.operands _ _ e))
held_more c other less x f (read_index e) = f (read_index (less.indexes _ _ e))
held_more c other less x f (write_index e) = f (write_index (less.indexes _ _ e))
held_more c other less x f stored_index = f stored_index
held_more c other less x f stored_value = f stored_value

pub clears_under_less : {L : Type 0} → ClearsUnderLess L
clears_under_less c other less T typed =
    record {
      start = typed.start;
      keeps = typed.keeps;
      takes = typed.takes;
      bounded = λ p w b k h held. held_more c other less (T p k) (λ x. typed.bounded p w b k h x) held;
    }

pub two_runs : {L : Type 0} → TwoRuns L
two_runs c laws honest wf cleared opens tells m m' z z' g xs ys alike =
    let both =
    calls_same c wf laws honest (table_clears c laws wf cleared.0 cleared.1) opens tells xs ys (started m) (started m')
    (record { same_point = refl; inside = omega arith; sized = z; sized' = z'; agree = g })
    alike in
    record { same_answers = both.0; same_point = both.1.same_point; agree = both.1.agree }
