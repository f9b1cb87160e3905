-- Tables of levels, read byte by byte. Assumes nothing.
use Rattle.std.proofs.Common.{◌≡◌, ℕ, ◌+◌, ◌<◌, ◌≤◌, true, false, eqb, List, [], ◌∷◌, ◌++◌, length, get_or, drop, is_some, Some, None, Option, sym, refl, ap, ◌∙◌, append_assoc, ne_eqb}
use borrow.Author.Tests.{both_ways}
use Rattle.std.proofs.lemmas.List.{drop_all, drop_more}
use Rattle.levels.specs.declared.owners.Owners.{Owners}
use Rattle.settings.specs.Tables.{put_first, codes_after, owner_codes_of, codes_of, more_digits, if_some}

-- what was read, and then the rest
abbrev pub before : {A : Type 0} → List A → Option (List A) → Option (List A)
before xs None = None
before xs (Some l) = Some (xs ++ l)

-- an item that is read goes over to what was read
pub before_more : {A : Type 0} (xs : List A) (a : A) (r : Option (List A)) → before xs (put_first (Some a) r) ≡ before (xs ++ (a ∷ [])) r
before_more xs a None = refl
before_more xs a (Some l) = ap Some (sym (append_assoc xs (a ∷ []) l))

codes_append : (xs ys : List Owners) → codes_of (xs ++ ys) ≡ codes_of xs ++ codes_of ys
codes_append [] ys = refl
codes_append (x ∷ xs) ys = ap (λ (l : List ℕ). x.set ∷ l) (codes_append xs ys)

pub codes_add : (xs : List Owners) (o : Owners) (now : List Owners) → now ≡ xs ++ (o ∷ []) → codes_of now ≡ codes_of xs ++ (o.set ∷ [])
codes_add xs o now e = ap codes_of e ∙ codes_append xs (o ∷ [])

-- the codes that byte b begins, after the digits of p, where `rest` are the bytes behind it
abbrev pub codes_at : Option ℕ → ℕ → List ℕ → Option (List ℕ)
codes_at p b rest = codes_after p (b ∷ rest)

pub codes_more : (s : List ℕ) (i : ℕ) (p : Option ℕ) → i < length s → codes_after p (drop i s) ≡ codes_at p (get_or s i 0) (drop (i + 1) s)
codes_more s i p h = ap (codes_after p) (drop_more s i 0 h)

pub at_comma : (p : Option ℕ) (b : ℕ) (rest : List ℕ) → b ≡ 44 → codes_at p b rest ≡ put_first p (codes_after None rest)
at_comma p b rest e = rw e

pub at_digit : (p : Option ℕ) (b : ℕ) (rest : List ℕ) → (b ≡ 44 → ⊥) → codes_at p b rest ≡ if_some (more_digits p b) (codes_after (more_digits p b) rest)
at_digit p b rest ne = let f : eqb b 44 ≡ false = ne_eqb b 44 ne in rw f

-- a comma after digits, a digit, and the end
pub comma_turn :
    (s : List ℕ) (i : ℕ) (p : Option ℕ) (n : ℕ) (xs now : List ℕ) (code : Option ℕ)
    → i < length s
    → get_or s i 0 ≡ 44
    → p ≡ Some n
    → now ≡ xs ++ (n ∷ [])
    → code ≡ None
    → owner_codes_of s ≡ before xs (codes_after p (drop i s))
    → owner_codes_of s ≡ before now (codes_after code (drop (i + 1) s))
comma_turn s i p n xs now code h e some more none inv =
    let rest = codes_after None (drop (i + 1) s) in
    inv ∙ ap (before xs) (codes_more s i p h ∙ at_comma p (get_or s i 0) (drop (i + 1) s) e)
    ∙ ap (λ (o : Option ℕ). before xs (put_first o rest)) some ∙ before_more xs n rest
    ∙ ap (λ (l : List ℕ). before l rest) (sym more)
    ∙ ap (λ (o : Option ℕ). before now (codes_after o (drop (i + 1) s))) (sym none)

some_goes : {B : Type 0} (o : Option ℕ) (r : Option B) → is_some o ≡ true → if_some o r ≡ r
some_goes None r h = absurd (both_ways false refl h)
some_goes (Some n) r h = refl

digit_at :
    (s : List ℕ) (i : ℕ) (p : Option ℕ) (xs : List ℕ) (code : Option ℕ)
    → i < length s
    → (get_or s i 0 ≡ 44 → ⊥)
    → code ≡ more_digits p (get_or s i 0)
    → owner_codes_of s ≡ before xs (codes_after p (drop i s))
    → owner_codes_of s ≡ before xs (if_some code (codes_after code (drop (i + 1) s)))
digit_at s i p xs code h ne e inv =
    let rest = drop (i + 1) s in
    inv ∙ ap (before xs) (codes_more s i p h ∙ at_digit p (get_or s i 0) rest ne)
    ∙ ap (λ (o : Option ℕ). before xs (if_some o (codes_after o rest))) (sym e)

pub digit_turn :
    (s : List ℕ) (i : ℕ) (p : Option ℕ) (xs : List ℕ) (code : Option ℕ)
    → i < length s
    → (get_or s i 0 ≡ 44 → ⊥)
    → code ≡ more_digits p (get_or s i 0)
    → is_some code ≡ true
    → owner_codes_of s ≡ before xs (codes_after p (drop i s))
    → owner_codes_of s ≡ before xs (codes_after code (drop (i + 1) s))
digit_turn s i p xs code h ne e some inv =
    digit_at s i p xs code h ne e inv ∙ ap (before xs) (some_goes code (codes_after code (drop (i + 1) s)) some)

pub codes_end :
    (s : List ℕ) (i : ℕ) (p : Option ℕ) (n : ℕ) (xs now : List ℕ)
    → length s ≤ i
    → p ≡ Some n
    → now ≡ xs ++ (n ∷ [])
    → owner_codes_of s ≡ before xs (codes_after p (drop i s))
    → Some now ≡ owner_codes_of s
codes_end s i p n xs now h some more inv =
    sym (inv ∙ ap (λ (l : List ℕ). before xs (codes_after p l)) (drop_all i s h)
    ∙ ap (λ (o : Option ℕ). before xs (put_first o (Some []))) some ∙ ap Some (sym more))
