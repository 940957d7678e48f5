-- What reading and writing a listing promise, in one relation each: of what is given, the lent output before, the reply, and the output after.
-- Assumes nothing.
use Rattle.std.specs.Prelude.{ℕ, ◌≡◌, List}
use Rattle.sheet.specs.declared.Refusal.{Refusal}
use Rattle.sheet.specs.Refusals.{Gives}
use Rattle.listing.specs.declared.Listing.{Listing}
use Rattle.listing.specs.Cut.{lines_said}
use Rattle.listing.specs.Faults.{listing_fault}
use Rattle.listing.specs.Meant.{Means}
use Rattle.listing.specs.Printed.{printed, print_fault}

-- a reply's refusal
abbrev pub refusal_in : Listing → Refusal
refusal_in a = record { number = a.number; sheet = a.sheet; row = a.row }

-- a result is written, or 25, or what refuses it; the reply counts what was written
abbrev pub GivesListing : Refusal → List ℕ → List ℕ → Listing → List ℕ → Type 0
GivesListing refusal result out a out' = Gives refusal result out (refusal_in a) a.count out'

-- reading a text: where nothing refuses it, the sheet that its lines mean
pub record ReadsListing (text out : List ℕ) (a : Listing) (out' : List ℕ) : Type 0 where
  pub sheet : List ℕ
  pub means : (listing_fault text).number ≡ 0 → Means (lines_said text) sheet
  pub gives : GivesListing (listing_fault text) sheet out a out'

-- writing a sheet as a listing
abbrev pub WritesListing : List ℕ → List ℕ → Listing → List ℕ → Type 0
WritesListing s out a out' = GivesListing (print_fault s) (printed s) out a out'
