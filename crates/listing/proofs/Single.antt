-- Any two replies that reading a text allows are equal, and so is what they leave in the output; writing a sheet is `listing-one`.
-- Assumes nothing.
use Prim.Native.Nat.{ℕ}
use mathlib.Core.Path.{◌≡◌, refl, subst}
use mathlib.Core.Bool.{Bool, true, false}
use mathlib.Core.List.{List}
use lib.Dec.{eqb}
use borrow.Author.Tests.{eqb-true, eqb-false}
use Rattle.sheet.proofs.Writing.{gives-any}
use Rattle.listing.specs.declared.Listing.{Listing}
use Rattle.listing.specs.Cut.{lines_said}
use Rattle.listing.specs.Faults.{listing_fault}
use Rattle.listing.specs.Promises.{refusal_in, GivesListing, ReadsListing, WritesListing}
use Rattle.listing.specs.Printed.{printed, print_fault}
use Rattle.listing.proofs.Giving.{listing-one}
use Rattle.listing.proofs.Meaning.{means-one}

pub reads-one : (text out : List ℕ) (a b : Listing) (o o' : List ℕ) → ReadsListing text out a o → ReadsListing text out b o' → (a ≡ b) × (o ≡ o')
reads-one text out a b o o' x y = go (eqb (listing_fault text).number 0) refl
  where
    go : (d : Bool) → eqb (listing_fault text).number 0 ≡ d → (a ≡ b) × (o ≡ o')
    go true e =
        let z = eqb-true (listing_fault text).number 0 e in
        listing-one (listing_fault text) y.sheet out a b o o' (subst (λ (s : List ℕ). GivesListing (listing_fault text) s out a o) (means-one (lines_said text) x.sheet y.sheet (x.means z) (y.means z)) x.gives) y.gives
    go false e = listing-one (listing_fault text) y.sheet out a b o o' (gives-any (listing_fault text) x.sheet y.sheet out (refusal_in a) a.count o (eqb-false (listing_fault text).number 0 e) x.gives) y.gives

pub prints-one : (s out : List ℕ) (a b : Listing) (o o' : List ℕ) → WritesListing s out a o → WritesListing s out b o' → (a ≡ b) × (o ≡ o')
prints-one s out a b o o' x y = listing-one (print_fault s) (printed s) out a b o o' x y
