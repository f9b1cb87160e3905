-- What can be decided of a node, how many bits of a table stand, and how that number grows.
use Rattle.std.proofs.Common.{◌≡◌, ℕ, zero, suc, ◌+◌, ◌*◌, ◌<◌, ◌≤◌, Bool, true, false, ◌⊎◌, sym, refl, ap, ◌∙◌, subst, inl, inr, not-suc-le-zero, arith}
use Rattle.std.proofs.lemmas.Bool.{cases_eq, cases_Bool, both_ways}
use Rattle.rules.specs.declared.Node.{Node}
use Rattle.rules.specs.declared.Node.TheVariants.{Constant, Move, Operate, Select, Read, Write, If, Else, EndIf, While, EndWhile}
use Rattle.rules.specs.Routine.{Next, Reads, ReadsArray}
use Rattle.rules.specs.Reach.{Bits}

-- A type that has an element, or has none.
abbrev pub Decided : Type 0 → Type 0
Decided X = X ⊎ (X → ⊥)

pub both : (X Y : Type 0) → Decided X → Decided Y → Decided (X × Y)
both X Y (inl x) (inl y) = inl (x, y)
both X Y (inl x) (inr y) = inr (λ h. y h.1)
both X Y (inr x) y = inr (λ h. x h.0)

pub either : (X Y : Type 0) → Decided X → Decided Y → Decided (X ⊎ Y)
either X Y (inl x) y = inl (inl x)
either X Y (inr x) (inl y) = inl (inr y)
either X Y (inr x) (inr y) = inr (λ h. elim h [ inl a ↦ x a | inr b ↦ y b ])

pub is_true : (b : Bool) → Decided (b ≡ true)
is_true true = inl refl
is_true false = inr (λ h. both_ways false refl h)

pub is_false : (b : Bool) → Decided (b ≡ false)
is_false true = inr (λ h. both_ways true h refl)
is_false false = inl refl

pub next_decided : (n : Node) (p q : ℕ) → Decided (Next n p q)
next_decided (Constant d v) p q = cases_eq q (p + 1)
next_decided (Move d a) p q = cases_eq q (p + 1)
next_decided (Operate d op a b) p q = cases_eq q (p + 1)
next_decided (Select d c a b) p q = cases_eq q (p + 1)
next_decided (Read d t i) p q = cases_eq q (p + 1)
next_decided (Write t i v) p q = cases_eq q (p + 1)
next_decided (If c e) p q = either (q ≡ p + 1) (q ≡ e + 1) (cases_eq q (p + 1)) (cases_eq q (e + 1))
next_decided (Else f) p q = cases_eq q f
next_decided (EndIf i) p q = cases_eq q (p + 1)
next_decided (While c j) p q = either (q ≡ p + 1) (q ≡ j + 1) (cases_eq q (p + 1)) (cases_eq q (j + 1))
next_decided (EndWhile h) p q = cases_eq q h

-- Some scalar that a node reads has its bit.
abbrev pub SomeRead : Node → (ℕ → Bool) → Type 0
SomeRead n f = (a : ℕ) × (Reads n a × (f a ≡ true))

pub one_read : (x : ℕ) (f : ℕ → Bool) → Decided ((a : ℕ) × ((a ≡ x) × (f a ≡ true)))
one_read x f = go (cases_Bool (f x))
  where
    go : (f x ≡ true) ⊎ (f x ≡ false) → Decided ((a : ℕ) × ((a ≡ x) × (f a ≡ true)))
    go (inl e) = inl (x, (refl, e))
    go (inr e) = inr (λ h. both_ways (f x) e (ap f (sym h.1.0) ∙ h.1.1))

pub more_reads :
    (X Y : ℕ → Type 0) (f : ℕ → Bool)
    → Decided ((a : ℕ) × (X a × (f a ≡ true)))
    → Decided ((a : ℕ) × (Y a × (f a ≡ true)))
    → Decided ((a : ℕ) × ((X a ⊎ Y a) × (f a ≡ true)))
more_reads X Y f (inl x) y = inl (x.0, (inl x.1.0, x.1.1))
more_reads X Y f (inr x) (inl y) = inl (y.0, (inr y.1.0, y.1.1))
more_reads X Y f (inr x) (inr y) = inr (λ h. elim h.1.0 [ inl a ↦ x (h.0, (a, h.1.1)) | inr b ↦ y (h.0, (b, h.1.1)) ])

pub read_decided : (n : Node) (f : ℕ → Bool) → Decided (SomeRead n f)
read_decided (Constant d v) f = inr (λ h. h.1.0)
read_decided (Move d x) f = one_read x f
read_decided (Operate d op x y) f = more_reads (λ a. a ≡ x) (λ a. a ≡ y) f (one_read x f) (one_read y f)
read_decided (Select d c x y) f =
    more_reads (λ a. a ≡ c) (λ a. (a ≡ x) ⊎ (a ≡ y)) f (one_read c f) (more_reads (λ a. a ≡ x) (λ a. a ≡ y) f (one_read x f) (one_read y f))
read_decided (Read d t i) f = one_read i f
read_decided (Write t i v) f = more_reads (λ a. a ≡ i) (λ a. a ≡ v) f (one_read i f) (one_read v f)
read_decided (If c e) f = one_read c f
read_decided (Else e) f = inr (λ h. h.1.0)
read_decided (EndIf i) f = inr (λ h. h.1.0)
read_decided (While c j) f = one_read c f
read_decided (EndWhile i) f = inr (λ h. h.1.0)

-- The array that a node reads is start name m.
abbrev pub ArrayRead : Node → ℕ → ℕ → Type 0
ArrayRead n s m = (t : ℕ) × (ReadsArray n t × (m ≡ s + t))

pub array_decided : (n : Node) (s m : ℕ) → Decided (ArrayRead n s m)
array_decided (Constant d v) s m = inr (λ h. h.1.0)
array_decided (Move d x) s m = inr (λ h. h.1.0)
array_decided (Operate d op x y) s m = inr (λ h. h.1.0)
array_decided (Select d c x y) s m = inr (λ h. h.1.0)
array_decided (Read d u i) s m = go (cases_eq m (s + u))
  where
    go : (m ≡ s + u) ⊎ (m ≡ s + u → ⊥) → Decided (ArrayRead (Read d u i) s m)
    go (inl e) = inl (u, (refl, e))
    go (inr e) = inr (λ h. e (h.1.1 ∙ ap (λ x. s + x) h.1.0))
array_decided (Write u i v) s m = inr (λ h. h.1.0)
array_decided (If c e) s m = inr (λ h. h.1.0)
array_decided (Else e) s m = inr (λ h. h.1.0)
array_decided (EndIf i) s m = inr (λ h. h.1.0)
array_decided (While c j) s m = inr (λ h. h.1.0)
array_decided (EndWhile i) s m = inr (λ h. h.1.0)

-- Sums, and how they grow.
pub sum : (ℕ → ℕ) → ℕ → ℕ
sum f zero = 0
sum f (suc n) = sum f n + f n

pub sum_mono : (f g : ℕ → ℕ) → ((i : ℕ) → f i ≤ g i) → (n : ℕ) → sum f n ≤ sum g n
unfolding sum
sum_mono f g h zero = omega arith
sum_mono f g h (suc n) = let a = sum_mono f g h n in let b = h n in omega arith

pub sum_grows : (f g : ℕ → ℕ) → ((i : ℕ) → f i ≤ g i) → (n j : ℕ) → j < n → f j < g j → sum f n < sum g n
unfolding sum
sum_grows f g h zero j b e = absurd (not-suc-le-zero b)
sum_grows f g h (suc n) j b e = go (sum_grows f g h n j) (cases_eq j n)
  where
    go : (j < n → f j < g j → sum f n < sum g n) → (j ≡ n) ⊎ (j ≡ n → ⊥) → sum f (suc n) < sum g (suc n)
    go ih (inl k) = let a = sum_mono f g h n in let b : f n < g n = subst (λ x. f x < g x) k e in omega arith
    go ih (inr k) = let a = ih (omega arith) e in let b = h n in omega arith

pub sum_under : (f : ℕ → ℕ) (c : ℕ) → ((i : ℕ) → f i ≤ c) → (n : ℕ) → sum f n ≤ n * c
unfolding sum
sum_under f c h zero = omega arith
sum_under f c h (suc n) = let a = sum_under f c h n in let b = h n in omega arith

pub one : Bool → ℕ
one true = 1
one false = 0

pub one_small : (b : Bool) → one b ≤ 1
unfolding one
one_small true = omega arith
one_small false = omega arith

pub one_mono : (a b : Bool) → (a ≡ true → b ≡ true) → one a ≤ one b
unfolding one
one_mono true true h = omega arith
one_mono true false h = absurd (both_ways false refl (h refl))
one_mono false b h = omega arith

pub one_grows : (a b : Bool) → a ≡ false → b ≡ true → one a < one b
unfolding one
one_grows true b h k = absurd (both_ways true h refl)
one_grows false true h k = omega arith
one_grows false false h k = absurd (both_ways false refl k)

-- How many bits stand.
module _ (names points scalars : ℕ) where
  pub count : Bits → ℕ
  count b = sum (λ m. sum (λ p. sum (λ k. one (b m p k)) scalars) points) names

  pub count_under : (b : Bits) → count b ≤ names * (points * (scalars * 1))
  unfolding count
  count_under b = sum_under _ _ (λ m. sum_under _ _ (λ p. sum_under _ _ (λ k. one_small (b m p k)) scalars) points) names

  pub count_grows :
      (a b : Bits)
      → ((m p k : ℕ) → a m p k ≡ true → b m p k ≡ true)
      → (m p k : ℕ)
      → m < names
      → p < points
      → k < scalars
      → a m p k ≡ false
      → b m p k ≡ true
      → count a < count b
  unfolding count
  count_grows a b h m p k hm hp hk e f =
      sum_grows _ _ (λ i. sum_mono _ _ (λ j. sum_mono _ _ (λ x. one_mono (a i j x) (b i j x) (h i j x)) scalars) points) names m hm
      (sum_grows _ _ (λ j. sum_mono _ _ (λ x. one_mono (a m j x) (b m j x) (h m j x)) scalars) points p hp
      (sum_grows _ _ (λ x. one_mono (a m p x) (b m p x) (h m p x)) scalars k hk (one_grows (a m p k) (b m p k) e f)))

pub told : (X : Type 0) → Decided X → Bool
told X (inl x) = true
told X (inr x) = false

pub told_true : (X : Type 0) (d : Decided X) → X → told X d ≡ true
unfolding told
told_true X (inl y) x = refl
told_true X (inr y) x = absurd (y x)

pub told_so : (X : Type 0) (d : Decided X) → told X d ≡ true → X
unfolding told
told_so X (inl x) e = x
told_so X (inr x) e = absurd (both_ways false refl e)
