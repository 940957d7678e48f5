-- Reading what the writer wrote gives the same sheet.
-- Assumes nothing.
use Prim.Native.Nat.{ℕ}
use mathlib.Core.Path.{◌≡◌, sym, ap, subst, ◌∙◌}
use mathlib.Core.List.{List}
use lib.ListN.{take}
use borrow.Author.Tests.{eqb-true, not-false}
use Rattle.sheet.specs.declared.Refusal.{Refusal}
use Rattle.sheet.specs.Accepted.{Accepted}
use Rattle.sheet.specs.Refusals.{none}
use Rattle.sheet.specs.Rows.{header_of}
use Rattle.sheet.proofs.Accepting.{accepted}
use Rattle.sheet.proofs.Refusing.{line-good, refuse-good, then-good}
use Rattle.sheet.proofs.Writing.{gives-front, gives_as}
use Rattle.lines.specs.declared.Line.{Line}
use Rattle.listing.specs.declared.Listing.{Listing}
use Rattle.listing.specs.Cut.{lines_said}
use Rattle.listing.specs.Faults.{listing_fault}
use Rattle.listing.specs.Meant.{Means}
use Rattle.listing.specs.Printed.{printed, joint_sheet, print_fault}
use Rattle.listing.specs.Promises.{refusal_in, GivesListing, ReadsListing, WritesListing}
use Rattle.listing.proofs.Meaning.{means-one}
use Rattle.listing.proofs.Trip.{InWords, round_trip}

-- what the writer does not refuse: accepted sheets of one office
module _ (s : List ℕ) (e : (print_fault s).number ≡ 0) where
  pub written-accepted : Accepted s
  unfolding print_fault
  written-accepted = accepted 1 s (then-good _ _ e).0

  pub written_one : (header_of s).offices ≡ 1
  unfolding print_fault joint_sheet
  written_one = eqb-true (header_of s).offices 1 (not-false _ (line-good 28 _ 0 tt (refuse-good (joint_sheet (header_of s)) 1 0 none (then-good _ _ e).1).0).0)

module _ (s out : List ℕ) (a : Listing) (out' : List ℕ) (x : WritesListing s out a out') (z : a.number ≡ 0) where
  not-refused-by : (print_fault s).number ≡ 0
  not-refused-by = (then-good (print_fault s) _ (ap (λ (v : Refusal). v.number) (sym x.writes.told) ∙ z)).0

  -- the bytes that it counts are what is printed
  pub counted-printed : take a.count out' ≡ printed s
  counted-printed = gives-front (printed s) out (print_fault s) (refusal_in a) a.count out' x z

  -- they are read as the same sheet: nothing but 25 refuses them
  pub reads-again : InWords s → (o : List ℕ) (b : Listing) (o' : List ℕ) → ReadsListing (take a.count out') o b o' → GivesListing none s o b o'
  reads-again words o b o' r =
      let trip = round_trip s words (written-accepted s not-refused-by) (written_one s not-refused-by) in
      let text : lines_said (take a.count out') ≡ lines_said (printed s) = ap lines_said counted-printed in
      let passes : listing_fault (take a.count out') ≡ none = ap listing_fault counted-printed ∙ trip.0 in
      let same : r.sheet ≡ s = means-one (lines_said (printed s)) r.sheet s (subst (λ (ls : List Line). Means ls r.sheet) text (r.means (ap (λ (v : Refusal). v.number) passes))) trip.1 in
      subst (λ (t : List ℕ). GivesListing none t o b o') same (gives_as _ _ r.sheet o (refusal_in b) b.count o' passes r.gives)
