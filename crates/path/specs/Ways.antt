-- The ways by which a start name reaches a scalar at a point.
use Rattle.std.specs.Prelude.{◌≡◌, ℕ, ◌+◌, ◌-◌, ◌<◌, ◌≤◌, true, false, ◌⊎◌, Some, None, Option, slice_index_or}
use Rattle.rules.specs.declared.Node.{Node}
use Rattle.rules.specs.Routine.{Routine, end, node, Next, sets, Reads, ReadsArray}
use Rattle.rules.specs.Reach.{Reaches}
use Rattle.path.specs.declared.place.Place.{Place}
use Rattle.path.specs.declared.place.Origin.{Origin}
use Rattle.path.specs.declared.place.Origin.TheVariants.{Start, Read}
use Rattle.path.specs.declared.place.Path.{Path}

-- A node carries what reaches scalar k on to scalar j: it keeps it there, or reads k and sets j.
abbrev pub Carries : Node → ℕ → ℕ → Type 0
Carries n k j = ((sets n k ≡ false) × (j ≡ k)) ⊎ ((sets n j ≡ true) × Reads n k)

-- The node at a place carries what reaches it on to another place.
pub record Moves (r : Routine) (a b : Place) : Type 0 where
  pub at_node : a.point < end r
  pub goes : Next (node r a.point) a.point b.point
  pub carries : Carries (node r a.point) a.scalar b.scalar

-- The node n, at point p, reads array t, which is the start name s + t, into the scalar of a place, and goes to its point.
abbrev pub ReadsName : Node → ℕ → ℕ → ℕ → Place → Type 0
ReadsName n p s m a = Next n p a.point × (sets n a.scalar ≡ true) × ((t : ℕ) × ReadsArray n t × (m ≡ s + t))

-- Start name m comes to a place first: it is the scalar there at point 0, or the array that a node reads into it.
abbrev pub Begins : Routine → ℕ → Place → Origin → Type 0
Begins r m a Start = (a.point ≡ 0) × (a.scalar ≡ m) × (m < r.scalars)
Begins r m a (Read p) = (p < end r) × ReadsName (node r p) p r.scalars m a

abbrev pub OriginAnswer : Routine → ℕ → Place → Option Origin → Type 0
OriginAnswer r m a None = (o : Origin) → Begins r m a o → ⊥
OriginAnswer r m a (Some o) = Begins r m a o

abbrev pub at_place : ℕ → ℕ → Place
at_place p k = record { point = p; scalar = k }

abbrev pub no_place : Place
no_place = at_place 0 0

abbrev pub step_of : Path → ℕ → Place
step_of x i = slice_index_or x.places i no_place

-- A way of start name m to a place: it begins with the name, each step is one of the rules of reach, and it ends there.
pub record Way (r : Routine) (m : ℕ) (to : Place) (x : Path) : Type 0 where
  pub some : 0 < x.count
  pub few : x.count ≤ 3096
  pub begins : Begins r m (step_of x 0) x.origin
  pub steps : (i : ℕ) → i + 1 < x.count → Moves r (step_of x i) (step_of x (i + 1))
  pub ends : step_of x (x.count - 1) ≡ to

-- A way, or the name does not reach the place.
abbrev pub WayAnswer : Routine → ℕ → Place → Option Path → Type 0
WayAnswer r m to None = Reaches r m to.point to.scalar → ⊥
WayAnswer r m to (Some x) = Way r m to x
