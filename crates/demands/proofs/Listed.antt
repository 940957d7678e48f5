-- Listings: what is refused, and what was promised to the desks.
-- Assumes nothing.
use Prim.Native.Nat.{ℕ, ◌≤◌}
use mathlib.Core.Path.{◌≡◌, refl, sym, ap, subst, ◌∙◌}
use mathlib.Core.Bool.{Bool, true, false}
use mathlib.Core.List.{List}
use lib.Dec.{eqb}
use lib.ListN.{length, take}
use borrow.Author.Tests.{eqb-true, eqb-false}
use Rattle.sheet.specs.declared.Refusal.{Refusal}
use Rattle.sheet.specs.Limits.{sheet_words}
use Rattle.sheet.specs.Refusals.{◌when◌otherwise◌, none, refuse, ◌then◌, short}
use Rattle.sheet.specs.Rows.{header_of}
use Rattle.sheet.specs.Verdict.{verdict}
use Rattle.sheet.proofs.Accepting.{not-refused}
use Rattle.sheet.proofs.Refusing.{then-some-is, then-good, then-none}
use Rattle.sheet.proofs.Writing.{short-fits, gives-counted, gives-front}
use Rattle.listing.specs.declared.Listing.{Listing}
use Rattle.listing.specs.Cut.{lines_said}
use Rattle.listing.specs.Faults.{node_lines, edge_lines, listing_fault}
use Rattle.listing.specs.Printed.{printed, joint_sheet, print_fault}
use Rattle.listing.specs.Promises.{refusal_in, GivesListing, ReadsListing, WritesListing}
use Rattle.listing.proofs.Again.{reads-again}
use Rattle.listing.proofs.EachRow.{line-for-each-row}
use Rattle.listing.proofs.Reordering.{order-free}
use Rattle.demands.specs.Demands.{Keeps, Sheet}
use Rattle.demands.specs.Listings.{Listings}
use Rattle.demands.proofs.Keeping.{writer-keeps}

pub gives-keeps : (refusal : Refusal) (result out : List ℕ) (a : Listing) (out' : List ℕ) → GivesListing refusal result out a out' → Keeps (λ x. x ≡ (refusal then short (length out) (length result))) (refusal_in a) a.count out out'
gives-keeps refusal result out a out' g =
    let k = (writer-keeps refusal result out g.writes).0 in
    record { first = k.first; no_other = k.no_other; untouched = k.untouched; only = λ z. rw (gives-counted result out refusal (refusal_in a) a.count out' g z) (k.only z) }

-- ---- reading

module _ (text out : List ℕ) (a : Listing) (out' : List ℕ) (r : ReadsListing text out a out') where
  -- the sheet is as long as its lines make it
  sheet-long : (listing_fault text).number ≡ 0 → length r.sheet ≡ sheet_words 1 (node_lines (lines_said text)) (edge_lines (lines_said text))
  sheet-long z =
      let m = r.means z in
      let h = m.accepted.nodes.header in
      let e = line-for-each-row text r.sheet z m in
      h.whole ∙ (λ i. sheet_words (h.form i) (e.0 i) (e.1 i))

  -- what refuses a text, with 25 by its lines
  same-short : (listing_fault text then short (length out) (length r.sheet)) ≡ (listing_fault text then short (length out) (sheet_words 1 (node_lines (lines_said text)) (edge_lines (lines_said text))))
  same-short = go (eqb (listing_fault text).number 0) refl
    where
      go : (b : Bool) → eqb (listing_fault text).number 0 ≡ b → (listing_fault text then short (length out) (length r.sheet)) ≡ (listing_fault text then short (length out) (sheet_words 1 (node_lines (lines_said text)) (edge_lines (lines_said text))))
      go true q = ap (λ (n : ℕ). listing_fault text then short (length out) n) (sheet-long (eqb-true _ 0 q))
      go false q = sym (then-some-is (listing_fault text) (listing_fault text) _ refl (eqb-false _ 0 q)) ∙ then-some-is (listing_fault text) (listing_fault text) _ refl (eqb-false _ 0 q)

  pub reading-keeps : Keeps (λ x. x ≡ (listing_fault text then short (length out) (sheet_words 1 (node_lines (lines_said text)) (edge_lines (lines_said text))))) (refusal_in a) a.count out out'
  reading-keeps = subst (λ (v : Refusal). Keeps (λ x. x ≡ v) (refusal_in a) a.count out out') same-short (gives-keeps (listing_fault text) r.sheet out a out' r.gives)

  not-refused-then : a.number ≡ 0 → (listing_fault text).number ≡ 0
  not-refused-then z = (then-good (listing_fault text) _ (ap (λ (v : Refusal). v.number) (sym r.gives.writes.told) ∙ z)).0

  -- the words that it counts are the sheet
  counted-sheet : a.number ≡ 0 → take a.count out' ≡ r.sheet
  counted-sheet z = gives-front r.sheet out (listing_fault text) (refusal_in a) a.count out' r.gives z

  pub lines-each : a.number ≡ 0 → ((header_of (take a.count out')).nodes ≡ node_lines (lines_said text)) × ((header_of (take a.count out')).edges ≡ edge_lines (lines_said text))
  lines-each z = let w = not-refused-then z in rw (counted-sheet z) (line-for-each-row text r.sheet w (r.means w))

-- ---- writing

-- nothing refuses an accepted sheet of one office
one_passes : (s : List ℕ) → Sheet 1 s → print_fault s ≡ none
unfolding print_fault joint_sheet refuse ◌when◌otherwise◌
one_passes s S = then-none (verdict 1 s) _ (not-refused 1 s S.formed) ∙ rw S.count refl

written-whole : (s out : List ℕ) (a : Listing) (out' : List ℕ) → Sheet 1 s → length (printed s) ≤ length out → WritesListing s out a out' → (a.number ≡ 0) × (a.count ≡ length (printed s))
written-whole s out a out' S room w =
    let told = w.writes.told ∙ then-none (print_fault s) (short (length out) (length (printed s))) (one_passes s S) ∙ short-fits (length out) (length (printed s)) room in
    let z : a.number ≡ 0 = ap (λ (r : Refusal). r.number) told in
    (z, gives-counted (printed s) out (print_fault s) (refusal_in a) a.count out' w z)

pub listings : Listings
listings =
    record {
      is-written = λ s out {a} {out'} S room w. written-whole s out a out' S room w;
      comes_back = λ s out {a} {out'} words w z room {b} {room'} r. reads-again s out a out' w z words room b room' r;
      any_order = λ text text' out same {a} {b} {o} {o'} x y. order-free text text' out same a b o o' x y;
      line-for-each = λ text out {a} {out'} r z. lines-each text out a out' r z;
    }
