-- What is written back is what was read. Assumes nothing.
use Rattle.std.proofs.Common.{◌≡◌, ℕ, ◌-◌, Bool, true, List, ◌++◌, length, take, Ok, sym, ap, ◌∙◌}
use native.Mathlib.Nat.{sub-zero}
use Rattle.std.specs.Str.{bytes_eq}
use Rattle.std.proofs.lemmas.Slice.Eq.{bytes_eq-Decides}
use Rattle.listing.specs.declared.parts.Listing.{Listing}
use Rattle.listing.specs.Reading.{listing_read}
use Rattle.listing.specs.Texts.{listing_text}
use Rattle.listing.proofs.Readback.{text_ok}
use Rattle.report.specs.Sheets.{back_text}

-- a test of xs is a test of zs, if they are the same
pub tested : (r : Bool) (xs ys zs : List ℕ) → xs ≡ zs → r ≡ bytes_eq xs ys → r ≡ bytes_eq zs ys
tested r xs ys zs e d = d ∙ ap (λ (l : List ℕ). bytes_eq l ys) e

-- the front that was written is the text of the listing
pub front_text : (n : ℕ) (left : List ℕ) (t : Listing) → listing_read (take n left) ≡ Ok t → take (n - 0) left ≡ listing_text t
front_text n left t e = ap (λ (k : ℕ). take k left) (sub-zero n) ∙ text_ok (take n left) t e

pub identical : (text front s z : List ℕ) → s ≡ z → text ≡ front ++ back_text (bytes_eq z s) (length s) → text ≡ front ++ back_text true (length s)
identical text front s z e q = q ∙ ap (λ (b : Bool). front ++ back_text b (length s)) ((bytes_eq-Decides z s).1 (sym e))
