-- How many lines decide a fault, and no fewer; what the line is that it stands on.
use Rattle.std.proofs.Common.{◌≡◌, ℕ, zero, suc, ◌+◌, ◌-◌, ◌*◌, ◌/◌, ◌%◌, ◌<◌, ◌≤◌, min, Bool, true, false, ◌||◌, eqb, ltb, ◌⊎◌, List, [], ◌∷◌, ◌++◌, length, take, drop, set, replicate, Ok, Err, Result, sym, refl, ap, ◌∙◌, subst, inl, inr, arith, length-drop}
use native.Mathlib.Nat.{min-eq_left, min-eq_right, min-le_left, min-le_right}
use Rattle.std.proofs.lemmas.List.{length-append, length-take-le, take_at, drop_at, take-append-le, take-take, take_all}
use Rattle.std.proofs.lemmas.Bool.{cond-true, cond-false, eqb-true, eqb-false, ltb-false, cases_Bool, cases_eq, cases_lt, or_parts}
use Rattle.lines.specs.declared.faults.ColumnFault.{ColumnFault}
use Rattle.lines.specs.declared.faults.LineFault.{LineFault}
use Rattle.lines.specs.declared.faults.LineFault.TheVariants as fault
use Rattle.lines.specs.declared.line.Line.{Line}
use Rattle.lines.specs.Laws.{Leftmost, LineOf}
use Rattle.lines.specs.Lines.{bind, part, fault_at, line_read}
use Rattle.lines.specs.Text.{over}
use Rattle.lines.proofs.Back.{fault_line as column_line}
use Rattle.lines.proofs.Leftmost.{leftmost}
use Rattle.lines.proofs.Lines.{err_is_err, line_ok}
use Rattle.rules.specs.declared.Node.{Node}
use Rattle.rules.specs.declared.Region.{Region}
use Rattle.listing.specs.declared.faults.RoutineFault.{RoutineFault}
use Rattle.listing.specs.declared.faults.RoutineFault.TheVariants as fault_of
use Rattle.listing.specs.declared.parts.Counts.{Counts}
use Rattle.listing.specs.declared.parts.Listing.{Listing}
use Rattle.listing.specs.Answers.{deciding, Decide, SomeLine, OwnLine, Refused}
use Rattle.listing.specs.Blocks.{Open, scan, placed}
use Rattle.listing.specs.Forms.{no_region}
use Rattle.listing.specs.Nodes.{in_column, node_line, node_from, node_at}
use Rattle.listing.specs.Reading.{header_of, header_read, region_of, region_read, regions_scan, regions_read, nodes_read, in_line, body_read, listing_read}
use Rattle.listing.proofs.Decided.{line, On, Inner, In, in_placed, in_node, in_region, on_node, on_region, err_same, blank, nodes_on, parts_on, own_line}
use Rattle.listing.proofs.Laws.{none_has}
use Rattle.listing.proofs.Nested.{on, with_node}
use Rattle.listing.proofs.Readback.{length_part}

-- the columns of line i are read
abbrev Good : List ℕ → ℕ → Type 0
Good s i = (x : Line) × (line_read (part (51 * i) 51 s) i ≡ Ok x)

-- line i was read, or its column's fault is the fault g
abbrev Seen : List ℕ → ℕ → LineFault → Type 0
Seen s i g = (Good s i × Inner g) ⊎ ((c : ColumnFault) × (line_read (part (51 * i) 51 s) i ≡ Err c) × (g ≡ fault.Column c))

-- the fault g of n lines is on one of them that was seen, or past them
abbrev Found : List ℕ → ℕ → LineFault → Type 0
Found s n g = ((line g < n) × Seen s (line g) g) ⊎ ((line g ≡ n) × Good s (n - 1) × Inner g)

module _ {A : Type 0} (s : List ℕ) (i : ℕ) (k : Line → Result A LineFault) where
  at_line : (g : LineFault) → ((x : Line) → In i (k x)) → bind (in_column (line_read (part (51 * i) 51 s) i)) k ≡ Err g → Seen s i g
  at_line g h e = go (line_read (part (51 * i) 51 s) i) refl e where
    go : (r : Result Line ColumnFault) → line_read (part (51 * i) 51 s) i ≡ r → bind (in_column r) k ≡ Err g → Seen s i g
    go (Ok x) q r = inl ((x, q), (subst (In i) r (h x)).1)
    go (Err c) q r = inr (c, q, sym (err_same r))

  good_line : (y : A) → bind (in_column (line_read (part (51 * i) 51 s) i)) k ≡ Ok y → Good s i
  good_line y e = go (line_read (part (51 * i) 51 s) i) refl e where
    go : (r : Result Line ColumnFault) → line_read (part (51 * i) 51 s) i ≡ r → bind (in_column r) k ≡ Ok y → Good s i
    go (Ok x) q r = (x, q)
    go (Err c) q r = absurd (err_is_err r)

-- where a part is open, the line before was read
abbrev Before : List ℕ → List Open → ℕ → Type 0
Before s [] i = Unit {0}
Before s (o ∷ st) i = Good s i

before_good : (s : List ℕ) (st : List Open) (i : ℕ) → Good s i → Before s st i
before_good s [] i h = tt
before_good s (o ∷ st) i h = h

on_line : (s : List ℕ) (n i : ℕ) (g : LineFault) → line g ≡ i → i < n → Seen s i g → Found s n g
on_line s n i g e h w = inl (subst (λ k. k < n) (sym e) h, subst (λ k. Seen s k g) (sym e) w)

module _ (s : List ℕ) (c : Counts) where
  scan_found : (k p : ℕ) (st : List Open) (ns : List Node) (g : LineFault) → p + k ≡ c.nodes → Before s st (node_line c p - 1) → scan s c k p st ns ≡ Err g → Found s (node_line c c.nodes) g
  scan_found zero p [] ns g h b e = absurd (err_is_err (sym e))
  scan_found zero p (o ∷ st) ns g h b e =
      let z : node_line c p - 1 ≡ node_line c c.nodes - 1 = omega arith in
      subst (Found s (node_line c c.nodes)) (err_same e) (inr (refl, subst (Good s) z b, tt))
  scan_found (suc k) p st ns g h b e =
      go (λ x st' d r. scan_found k (p + 1) st' (set ns p x) g (omega arith) d r) (node_at s c p) refl e
    where
      go₂ : ((x : Node) (st' : List Open) → Before s st' (node_line c (p + 1) - 1) → on s c k p ns x st' ≡ Err g → Found s (node_line c c.nodes) g)
          → (x : Node) → Good s (node_line c p) → (r : Result (List Open) LineFault) → placed (node_line c p) p x st ≡ r → bind r (on s c k p ns x) ≡ Err g → Found s (node_line c c.nodes) g
      go₂ again x good (Ok st') q r =
          let z : node_line c p ≡ node_line c (p + 1) - 1 = omega arith in
          again x st' (before_good s st' (node_line c (p + 1) - 1) (subst (Good s) z good)) r
      go₂ again x good (Err g') q r =
          let w = subst (In (node_line c p)) q (in_placed (node_line c p) p x st) in
          subst (Found s (node_line c c.nodes)) (err_same r) (on_line s (node_line c c.nodes) (node_line c p) g' w.0 (omega arith) (inl (good, w.1)))

      go : ((x : Node) (st' : List Open) → Before s st' (node_line c (p + 1) - 1) → on s c k p ns x st' ≡ Err g → Found s (node_line c c.nodes) g)
          → (r : Result Node LineFault) → node_at s c p ≡ r → bind r (with_node s c k p st ns) ≡ Err g → Found s (node_line c c.nodes) g
      go again (Ok x) q r = go₂ again x (good_line s (node_line c p) (node_from c p) x q) (placed (node_line c p) p x st) refl r
      go again (Err g') q r =
          let w = subst (On (node_line c p)) q (on_node (part (51 * node_line c p) 51 s) c p) in
          subst (Found s (node_line c c.nodes)) (err_same r) (on_line s (node_line c c.nodes) (node_line c p) g' w (omega arith) (at_line s (node_line c p) (node_from c p) g' (in_node c p) q))

regions_found : (s : List ℕ) (n k j b : ℕ) (gs : List Region) (g : LineFault) → 1 + j + k ≤ n → regions_scan s k j b gs ≡ Err g → Found s n g
regions_found s n zero j b gs g h e = absurd (err_is_err (sym e))
regions_found s n (suc k) j b gs g h e =
    go (λ y r. regions_found s n k (j + 1) (y.start + y.length) (set gs j y) g (omega arith) r) (region_read s j b) refl e
  where
    go : ((y : Region) → regions_scan s k (j + 1) (y.start + y.length) (set gs j y) ≡ Err g → Found s n g)
        → (r : Result Region LineFault) → region_read s j b ≡ r → bind r (λ g. regions_scan s k (j + 1) (g.start + g.length) (set gs j g)) ≡ Err g → Found s n g
    go again (Ok y) q r = again y r
    go again (Err g') q r =
        let w = subst (On (1 + j)) q (on_region s j b) in
        subst (Found s n) (err_same r) (on_line s n (1 + j) g' w (omega arith) (at_line s (1 + j) (λ x. region_of x j b) g' (in_region j b) q))

in_header : (x : Line) → In 0 (header_of x)
in_header x = grind arith

-- what is known of a fault past the first refusal
abbrev Known : List ℕ → RoutineFault → Type 0
Known s (fault_of.Shape l) = ⊥
Known s (fault_of.Line g) = Found s (length s / 51) g
Known s fault_of.Length = Good s 0

known_line : (s : List ℕ) (n : ℕ) (g : LineFault) (f : RoutineFault) → n ≡ length s / 51 → Found s n g → ◌≡◌ {A = Result Listing RoutineFault} (Err (fault_of.Line g)) (Err f) → Known s f
known_line s n g f e w q = subst (Known s) (err_same q) (subst (λ k. Found s k g) e w)

header_found : (s : List ℕ) (n : ℕ) (g : LineFault) → 0 < n → header_read (part 0 51 s) ≡ Err g → Found s n g
header_found s n g h e = go (line_read (part 0 51 s) 0) refl e where
  go : (r : Result Line ColumnFault) → line_read (part 0 51 s) 0 ≡ r → bind (in_column r) header_of ≡ Err g → Found s n g
  go (Ok x) q r = let w = subst (In 0) r (in_header x) in on_line s n 0 g w.0 h (inl ((x, q), w.1))
  go (Err c) q r = on_line s n 0 g (ap line (sym (err_same r)) ∙ column_line (part 0 51 s) 0 c q) h (inr (c, q, sym (err_same r)))

body_known : (s : List ℕ) (c : Counts) (f : RoutineFault) → Good s 0 → body_read s c ≡ Err f → Known s f
body_known s c f good e =
    elim (cases_Bool (eqb (length s / 51) (1 + c.arrays + c.nodes))) [
      | inl t ↦ go (eqb-true (length s / 51) (1 + c.arrays + c.nodes) t) (regions_read s c) refl (sym (cond-true _ _ _ t) ∙ e)
      | inr t ↦ subst (Known s) (err_same (sym (cond-false _ _ _ t) ∙ e)) good
    ] where
      nodes : (gs : List Region) → length s / 51 ≡ 1 + c.arrays + c.nodes → (r : Result (List Node) LineFault) → nodes_read s c ≡ r → bind (in_line r) (nodes_on c gs) ≡ Err f → Known s f
      nodes gs n (Ok ns) q r = absurd (err_is_err (sym r))
      nodes gs n (Err g) q r = known_line s (node_line c c.nodes) g f (sym n) (scan_found s c (c.nodes - 0) 0 [] blank g (omega arith) tt q) r

      go : length s / 51 ≡ 1 + c.arrays + c.nodes → (r : Result (List Region) LineFault) → regions_read s c ≡ r → bind (in_line r) (parts_on s c) ≡ Err f → Known s f
      go n (Ok gs) q r = nodes gs n (nodes_read s c) refl r
      go n (Err g) q r = known_line s (length s / 51) g f refl (regions_found s (length s / 51) c.arrays 0 0 (replicate 8 no_region) g (omega arith) q) r

-- the text past the first refusal
abbrev lines_read : List ℕ → Result Listing RoutineFault
lines_read s = bind (in_line (header_read (part 0 51 s))) (body_read s)

lines_known : (s : List ℕ) (f : RoutineFault) → 0 < length s / 51 → lines_read s ≡ Err f → Known s f
lines_known s f h e = go (header_read (part 0 51 s)) refl e where
  go : (r : Result Counts LineFault) → header_read (part 0 51 s) ≡ r → bind (in_line r) (body_read s) ≡ Err f → Known s f
  go (Ok c) q r = body_known s c f (good_line s 0 header_of c q) r
  go (Err g) q r = known_line s (length s / 51) g f refl (header_found s (length s / 51) g h q) r

-- the first refusal, or whole lines and a later one
abbrev bad_shape : ℕ → Bool
bad_shape n = eqb n 0 || ltb 0 (n % 51)

abbrev Whole : List ℕ → RoutineFault → Type 0
Whole s f = (bad_shape (length s) ≡ false) × (length s ≡ 51 * (length s / 51)) × (0 < length s / 51) × (lines_read s ≡ Err f)

shape_or_whole : (s : List ℕ) (f : RoutineFault) → listing_read s ≡ Err f → ((bad_shape (length s) ≡ true) × (fault_of.Shape (length s / 51) ≡ f)) ⊎ Whole s f
shape_or_whole s f e =
    elim (cases_Bool (bad_shape (length s))) [
      | inl t ↦ inl (t, err_same (sym (cond-true _ _ _ t) ∙ e))
      | inr t ↦
          let o = or_parts (eqb (length s) 0) (ltb 0 (length s % 51)) t in
          let some : length s ≡ 0 → ⊥ = eqb-false (length s) 0 o.0 in
          let even : length s % 51 ≤ 0 = ltb-false 0 (length s % 51) o.1 in
          inr (t, omega arith, omega arith, sym (cond-false _ _ _ t) ∙ e)
    ]

shape_line : (n : ℕ) (g : LineFault) → fault_of.Shape n ≡ fault_of.Line g → ⊥
shape_line n g e = cc

shape_length : (n : ℕ) → fault_of.Shape n ≡ fault_of.Length → ⊥
shape_length n e = cc

-- the lines that decide
decided : (s : List ℕ) (f : RoutineFault) → listing_read s ≡ Err f → Decide (deciding s f) s f
decided s (fault_of.Shape l) e z len front =
    elim (shape_or_whole s (fault_of.Shape l) e) [
      | inl w ↦ cond-true _ _ _ (ap bad_shape len ∙ w.0) ∙ ap (λ n. Err (fault_of.Shape (n / 51))) len ∙ ap Err w.1
      | inr w ↦ absurd (lines_known s (fault_of.Shape l) w.2 w.3)
    ]
decided s (fault_of.Line g) e z len front =
    elim (shape_or_whole s (fault_of.Line g) e) [
      | inl w ↦ absurd (shape_line (length s / 51) g w.1)
      | inr w ↦ elim (cases_lt (line g) (length s / 51)) [
        | inl h ↦ own_line s (fault_of.Line g) e z len (subst (λ k. take (51 * k) z ≡ take (51 * k) s) (min-eq_left (omega arith)) front)
        | inr h ↦
            let long : length s ≡ 51 * (length s / 51) = w.1 in
            let q : take (51 * (length s / 51)) z ≡ take (51 * (length s / 51)) s = subst (λ k. take (51 * k) z ≡ take (51 * k) s) (min-eq_right (omega arith)) front in
            let same : z ≡ s = sym (take_all (51 * (length s / 51)) z (omega arith)) ∙ q ∙ take_all (51 * (length s / 51)) s (omega arith) in
            ap listing_read same ∙ e
      ]
    ]
decided s fault_of.Length e z len front = own_line s fault_of.Length e z len front

-- a line whose number is refused, and one whose letter is
abbrev no_number : List ℕ
no_number = replicate 51 0

abbrev no_letter : List ℕ
no_letter = 32 ∷ 32 ∷ 32 ∷ 48 ∷ replicate 47 0

-- a line whose fault, on line i, is not g
record Other (i : ℕ) (g : LineFault) : Type 0 where
  bytes : List ℕ
  long : length bytes ≡ 51
  column : ColumnFault
  refused : line_read bytes i ≡ Err column
  differs : g ≡ fault.Column column → ⊥

column_same : {c d : ColumnFault} → fault.Column c ≡ fault.Column d → c ≡ d
column_same {c} {d} e = cc

without_number : (i : ℕ) (g : LineFault) → (g ≡ fault.Column (fault_at i 0) → ⊥) → Other i g
without_number i g h = record { bytes = no_number; long = refl; column = fault_at i 0; refused = refl; differs = h }

other : (i : ℕ) (g : LineFault) → Other i g
other i (fault.Column c) =
    elim (cases_eq c.field 0) [
      | inl t ↦
          let one : ◌≡◌ {A = ColumnFault} c (fault_at i 1) → ⊥ = λ q. let z : ◌≡◌ {A = ℕ} 0 1 = sym t ∙ ap (λ d. d.field) q in omega arith in
          record { bytes = no_letter; long = refl; column = fault_at i 1; refused = refl; differs = λ e. one (column_same e) }
      | inr t ↦ without_number i (fault.Column c) (λ e. t (ap (λ d. d.field) (column_same e)))
    ]
other i (fault.Misplaced l f) = without_number i (fault.Misplaced l f) (λ e. cc)
other i (fault.Count l f) = without_number i (fault.Count l f) (λ e. cc)
other i (fault.Region l f) = without_number i (fault.Region l f) (λ e. cc)
other i (fault.Absent l f) = without_number i (fault.Absent l f) (λ e. cc)
other i (fault.Unpaired l f) = without_number i (fault.Unpaired l f) (λ e. cc)
other i (fault.TooDeep l) = without_number i (fault.TooDeep l) (λ e. cc)

-- the bytes s with another line i
module _ (s bytes : List ℕ) (i : ℕ) (long : length bytes ≡ 51) (inside : 51 * i + 51 ≤ length s) where
  abbrev changed : List ℕ
  changed = over (51 * i) bytes s

  front_long : length (take (51 * i) s) ≡ 51 * i
  front_long = length-take-le (51 * i) s (omega arith)

  changed_long : length changed ≡ length s
  changed_long =
      length-append (take (51 * i) s) (bytes ++ drop (51 * i + length bytes) s)
      ∙ ap (λ k. length (take (51 * i) s) + k) (length-append bytes (drop (51 * i + length bytes) s) ∙ ap (λ k. length bytes + k) (length-drop (51 * i + length bytes) s))
      ∙ omega (arith, front_long)

  changed_front : (n : ℕ) → n ≤ i → take (51 * n) changed ≡ take (51 * n) s
  changed_front n h =
      take-append-le (51 * n) (take (51 * i) s) (bytes ++ drop (51 * i + length bytes) s) (omega (arith, front_long))
      ∙ take-take (51 * n) (51 * i) s (omega arith)

  changed_line : part (51 * i) 51 changed ≡ bytes
  changed_line =
      ap (take 51) (drop_at (take (51 * i) s) (bytes ++ drop (51 * i + length bytes) s) (51 * i) front_long)
      ∙ take_at bytes (drop (51 * i + length bytes) s) 51 long

-- what is as long as whole lines is whole lines
same_shape : (s z : List ℕ) (f : RoutineFault) → length z ≡ length s → bad_shape (length s) ≡ false → listing_read z ≡ Err f → lines_read z ≡ Err f
same_shape s z f len t e = sym (cond-false _ _ _ (ap bad_shape len ∙ t)) ∙ e

never_good : (z bytes : List ℕ) (i : ℕ) (c : ColumnFault) → part (51 * i) 51 z ≡ bytes → line_read bytes i ≡ Err c → Good z i → ⊥
never_good z bytes i c e q g = err_is_err (sym q ∙ ap (λ t. line_read t i) (sym e) ∙ g.1)

never_seen : (z bytes : List ℕ) (i : ℕ) (c : ColumnFault) (g : LineFault) → part (51 * i) 51 z ≡ bytes → line_read bytes i ≡ Err c → (g ≡ fault.Column c → ⊥) → Seen z i g → ⊥
never_seen z bytes i c g e q h (inl w) = never_good z bytes i c e q w.0
never_seen z bytes i c g e q h (inr w) =
    let same : w.0 ≡ c = err_same (sym w.1 ∙ ap (λ t. line_read t i) e ∙ q) in
    h (w.2 ∙ ap fault.Column same)

-- no fewer lines decide
not_sooner : (s : List ℕ) (f : RoutineFault) → listing_read s ≡ Err f → (n : ℕ) → n < deciding s f → Decide n s f → ⊥
not_sooner s (fault_of.Shape l) e n h d = omega arith
not_sooner s (fault_of.Length) e n h d =
    elim (shape_or_whole s fault_of.Length e) [
      | inl w ↦ shape_length (length s / 51) w.1
      | inr w ↦
          let b₁ = w.1 in
          let b₂ = w.2 in
          let inside : 51 * 0 + 51 ≤ length s = omega arith in
          let z = changed s no_number 0 refl inside in
          let len = changed_long s no_number 0 refl inside in
          let r = same_shape s z fault_of.Length len w.0 (d z len (changed_front s no_number 0 refl inside n (omega arith))) in
          never_good z no_number 0 (fault_at 0 0) (changed_line s no_number 0 refl inside) refl
          (lines_known z fault_of.Length (subst (λ k. 0 < k / 51) (sym len) w.2) r)
    ]
not_sooner s (fault_of.Line g) e n h d =
    elim (shape_or_whole s (fault_of.Line g) e) [
      | inl w ↦ shape_line (length s / 51) g w.1
      | inr w ↦ elim (cases_lt (line g) (length s / 51)) [
        | inl b ↦
            let b₁ = w.1 in
            let o = other (line g) g in
            let inside : 51 * line g + 51 ≤ length s = omega arith in
            let m : min (1 + line g) (length s / 51) ≤ 1 + line g = min-le_left (1 + line g) (length s / 51) in
            let z = changed s o.bytes (line g) o.long inside in
            let len = changed_long s o.bytes (line g) o.long inside in
            let r = same_shape s z (fault_of.Line g) len w.0 (d z len (changed_front s o.bytes (line g) o.long inside n (omega arith))) in
            on_it z (length s / 51) b (ap (λ k. k / 51) len) (never_seen z o.bytes (line g) o.column g (changed_line s o.bytes (line g) o.long inside) o.refused o.differs)
            (lines_known z (fault_of.Line g) (subst (λ k. 0 < k / 51) (sym len) w.2) r)
        | inr b ↦
            let b₁ = w.1 in
            let b₂ = w.2 in
            let i : ℕ = length s / 51 - 1 in
            let inside : 51 * (length s / 51 - 1) + 51 ≤ length s = omega arith in
            let m : min (1 + line g) (length s / 51) ≤ length s / 51 = min-le_right (1 + line g) (length s / 51) in
            let z = changed s no_number i refl inside in
            let len = changed_long s no_number i refl inside in
            let r = same_shape s z (fault_of.Line g) len w.0 (d z len (changed_front s no_number i refl inside n (omega arith))) in
            past_it z (length s / 51) b (ap (λ k. k / 51) len) (never_good z no_number i (fault_at i 0) (changed_line s no_number i refl inside) refl)
            (lines_known z (fault_of.Line g) (subst (λ k. 0 < k / 51) (sym len) w.2) r)
      ]
    ] where
      on_it : (z : List ℕ) (k : ℕ) → line g < k → length z / 51 ≡ k → (Seen z (line g) g → ⊥) → Found z (length z / 51) g → ⊥
      on_it z k b q never (inl w) = never w.1
      on_it z k b q never (inr w) = let u = w.0 in omega arith

      past_it : (z : List ℕ) (k : ℕ) → k ≤ line g → length z / 51 ≡ k → (Good z (k - 1) → ⊥) → Found z (length z / 51) g → ⊥
      past_it z k b q never (inl w) = let u = w.0 in omega arith
      past_it z k b q never (inr w) = never (subst (λ j. Good z (j - 1)) q w.1)

-- the line of a fault that is not a column's
some_line : (s : List ℕ) (g : LineFault) → Inner g → length s ≡ 51 * (length s / 51) → Found s (length s / 51) g → SomeLine s (line g)
some_line s g n long (inl w) b = seen w.1 where
  seen : Seen s (line g) g → (x : Line) × LineOf (part (51 * line g) 51 s) x
  seen (inl u) = (u.0.0, line_ok (part (51 * line g) 51 s) (line g) u.0.0 (length_part (51 * line g) 51 s (omega arith)) u.0.1)
  seen (inr u) = absurd (subst Inner u.2 n)
some_line s g n long (inr w) b = let u = w.0 in absurd (omega arith)

-- the line of a fault
own_line_is : (s : List ℕ) (g : LineFault) → length s ≡ 51 * (length s / 51) → Found s (length s / 51) g → OwnLine s g
own_line_is s (fault.Column c) long (inl w) = seen w.0 w.1 where
  seen : c.line < length s / 51 → Seen s c.line (fault.Column c) → Leftmost (part (51 * c.line) 51 s) c.line c
  seen b (inl u) = absurd u.1
  seen b (inr u) =
      leftmost (part (51 * c.line) 51 s) c.line (length_part (51 * c.line) 51 s (omega arith)) c (u.1 ∙ ap Err (sym (column_same u.2)))
own_line_is s (fault.Column c) long (inr w) = absurd w.2
own_line_is s (fault.Misplaced l f) long w = some_line s (fault.Misplaced l f) tt long w
own_line_is s (fault.Count l f) long w = some_line s (fault.Count l f) tt long w
own_line_is s (fault.Region l f) long w = some_line s (fault.Region l f) tt long w
own_line_is s (fault.Absent l f) long w = some_line s (fault.Absent l f) tt long w
own_line_is s (fault.Unpaired l f) long w = some_line s (fault.Unpaired l f) tt long w
own_line_is s (fault.TooDeep l) long w = some_line s (fault.TooDeep l) tt long w

on_its_line : (s : List ℕ) (f : RoutineFault) → listing_read s ≡ Err f → (g : LineFault) → f ≡ fault_of.Line g → OwnLine s g
on_its_line s f e g q =
    elim (shape_or_whole s f e) [
      | inl w ↦ absurd (shape_line (length s / 51) g (w.1 ∙ q))
      | inr w ↦ own_line_is s g w.1 (lines_known s (fault_of.Line g) w.2 (w.3 ∙ ap Err q))
    ]

-- the fault that the rules give, in the subject's words
pub refused : (s : List ℕ) (f : RoutineFault) → listing_read s ≡ Err f → Refused s f
refused s f e = record { none = none_has s f e; decided = decided s f e; not_sooner = not_sooner s f e; own_line = on_its_line s f e }
