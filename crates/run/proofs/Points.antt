-- What a node of a loaded routine names, and where a step leads.
use Rattle.std.proofs.Common.{◌≡◌, ℕ, ◌+◌, ◌≤◌, ◌⊎◌, inl, inr, sym, refl, subst, arith}
use Rattle.rules.specs.declared.Node.{Node}
use Rattle.rules.specs.declared.Node.TheVariants.{Constant, Move, Operate, Select, Read, Write, If, Else, EndIf, While, EndWhile}
use Rattle.rules.specs.Routine.{Next, OperandsExist}
use Rattle.listing.specs.declared.routine.Routine.{Routine}
use Rattle.reach.proofs.Loaded.{limits_of}

-- What exists among few scalars and arrays exists among more.
pub more_exist : (n : Node) (s a s' a' : ℕ) → s ≤ s' → a ≤ a' → OperandsExist s a n → OperandsExist s' a' n
more_exist (Constant d v) s a s' a' h k e = omega arith
more_exist (Move d x) s a s' a' h k e = (omega arith, omega arith)
more_exist (Operate d op x y) s a s' a' h k e = (omega arith, omega arith, omega arith)
more_exist (Select d c x y) s a s' a' h k e = (omega arith, omega arith, omega arith, omega arith)
more_exist (Read d t i) s a s' a' h k e = (omega arith, omega arith, omega arith)
more_exist (Write t i v) s a s' a' h k e = (omega arith, omega arith, omega arith)
more_exist (If c f) s a s' a' h k e = omega arith
more_exist (Else f) s a s' a' h k e = tt
more_exist (EndIf i) s a s' a' h k e = tt
more_exist (While c j) s a s' a' h k e = omega arith
more_exist (EndWhile i) s a s' a' h k e = tt

pub among : (x : Routine) (n : Node) → OperandsExist x.listing.counts.scalars x.listing.counts.arrays n → OperandsExist 24 x.listing.counts.arrays n
among x n named = more_exist n _ _ 24 _ (limits_of x).scalars (omega arith) named

-- The point behind a part that is skipped.
pub skips :
    (n : Node) (p c e last : ℕ)
    → ((q : ℕ) → Next n p q → q ≤ last)
    → (n ≡ If c e) ⊎ (n ≡ While c e)
    → e + 1 ≤ last
skips n p c e last leads (inl is) = leads (e + 1) (subst (λ m. Next m p (e + 1)) (sym is) (inr refl))
skips n p c e last leads (inr is) = leads (e + 1) (subst (λ m. Next m p (e + 1)) (sym is) (inr refl))

pub few_points : (x : Routine) → x.listing.counts.nodes ≤ 128
few_points x = (limits_of x).nodes
