-- Where a memory holds what a place names, or why it holds none.
use Rattle.std.specs.Prelude.{◌≡◌, ℕ, ◌<◌, true, false, Ok, Err, Result}
use Rattle.rules.specs.Routine.{Routine}
use Rattle.rules.specs.Run.{Memory, Name, Answer, exists, value_at, with_value, unless_missing, scalar, cell, with_scalar, with_cell}
use Rattle.rules.specs.Run.Answer.{Refused}
use Rattle.run.specs.declared.slots.Slot.{Slot}
use Rattle.run.specs.declared.slots.Slot.TheVariants.{Scalar, Cell}
use Rattle.run.specs.declared.faults.RunFault.{RunFault}
use Rattle.run.specs.Views.{of_fault}

-- The slot lies in the memory.
abbrev pub Inside : Slot → Type 0
Inside (Scalar k) = k < 24
Inside (Cell j) = j < 512

-- What the slot holds.
abbrev pub held : Slot → Memory → ℕ
held (Scalar k) m = scalar m k
held (Cell j) m = cell m j

-- The memory in which the slot has become v.
abbrev pub with_slot : Slot → ℕ → Memory → Memory
with_slot (Scalar k) v m = with_scalar m k v
with_slot (Cell j) v m = with_cell m j v

-- The place exists, and this is where it stands.
pub record Found (r : Routine) (x : Name) (slot : Slot) : Type 0 where
  pub inside : Inside slot
  pub there : exists r x ≡ true
  pub answers : (a : Answer) → unless_missing r x a ≡ a
  pub reads : (m : Memory) → value_at r x m ≡ held slot m
  pub writes : (v : ℕ) (m : Memory) → with_value r x v m ≡ with_slot slot v m

-- The place does not exist, and this is the refusal.
pub record Missing (r : Routine) (x : Name) (f : RunFault) : Type 0 where
  pub not_there : exists r x ≡ false
  pub refused : (a : Answer) → unless_missing r x a ≡ Refused (of_fault f)

abbrev pub Located : Routine → Name → Result Slot RunFault → Type 0
Located r x (Ok slot) = Found r x slot
Located r x (Err f) = Missing r x f
