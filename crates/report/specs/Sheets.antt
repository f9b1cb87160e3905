-- What is shown of a listing: the record of what was loaded, or why it was refused.
use Rattle.std.specs.Prelude.{◌≡◌, ℕ, Bool, true, false, List, [], ◌∷◌, ◌++◌, length, Ok, Err, string_bytes, codes, decimal, Result, String, ⊤}
use Rattle.listing.specs.declared.faults.RoutineFault.{RoutineFault}
use Rattle.listing.specs.declared.parts.Listing.{Listing}
use Rattle.listing.specs.declared.routine.Routine.{Routine}
use Rattle.listing.specs.Faults.{refusal_of}
use Rattle.listing.specs.Reading.{listing_read}
use Rattle.report.specs.declared.sheet.NotShown.{NotShown}
use Rattle.report.specs.declared.sheet.NotShown.TheVariants.{Refused, NoMemory}
use Rattle.report.specs.Records.{record_text}
use Rattle.texts.specs.Refusals.{refusal_text}

abbrev pub listing_of : Routine → Listing
listing_of t = t.listing

-- whether what is written back is what was read, n bytes
abbrev pub back_text : Bool → ℕ → List ℕ
back_text true n = 10 ∷ (codes "Written back: " ++ (decimal n ++ (codes " bytes, identical to what was read." ++ (10 ∷ []))))
back_text false n = 10 ∷ (codes "Written back: other bytes than were read." ++ (10 ∷ []))

-- the bytes load as t, and the text is t's record, written back the same; or they are refused, and the text says why; or there is no memory
abbrev pub Shown : {H : Type 0} → List ℕ → Result (String H) NotShown → Type 0
Shown s (Ok text) =
    (t : Listing) × (listing_read s ≡ Ok t) × (string_bytes text ≡ record_text t ++ back_text true (length s))
Shown s (Err (Refused text)) =
    (f : RoutineFault) × (listing_read s ≡ Err f) × (string_bytes text ≡ refusal_text s (refusal_of f))
Shown s (Err NoMemory) = ⊤
