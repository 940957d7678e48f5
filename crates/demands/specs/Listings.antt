-- What the desks were promised of a listing (request 2026-01), of the two functions' own statements.
-- Assumes nothing.
use Rattle.std.specs.Prelude.{ℕ, ◌<◌, ◌≤◌, ◌≡◌, List, length, get_or, take}
use Rattle.sheet.specs.Refusals.{none}
use Rattle.sheet.specs.Rows.{header_of}
use Rattle.listing.specs.declared.Listing.{Listing}
use Rattle.listing.specs.Cut.{lines_said}
use Rattle.listing.specs.Faults.{node_lines, edge_lines}
use Rattle.listing.specs.Printed.{printed}
use Rattle.listing.specs.Promises.{GivesListing, ReadsListing, WritesListing}
use Rattle.listing.specs.Reordered.{SameLines, ReadAlike}
use Rattle.demands.specs.Demands.{Sheet}

-- the words of a lent slice are of 32 bits
abbrev pub OfWords32 : List ℕ → Type 0
OfWords32 s = (i : ℕ) → get_or s i 0 < 4294967296

pub record Listings : Type 0 where
  -- every accepted sheet of one office is written where there is room for its lines
  pub is-written : (s out : List ℕ) {a : Listing} {out' : List ℕ} → Sheet 1 s → length (printed s) ≤ length out → WritesListing s out a out' → (a.number ≡ 0) × (a.count ≡ length (printed s))
  -- reading what the writer wrote gives the same sheet
  pub comes_back : (s out : List ℕ) {a : Listing} {out' : List ℕ} → OfWords32 s → WritesListing s out a out' → a.number ≡ 0
      → (room : List ℕ) {b : Listing} {room' : List ℕ} → ReadsListing (take a.count out') room b room' → GivesListing none s room b room'
  -- the same lines in another order are read as the same sheet, or refused both
  pub any_order : (text text' out : List ℕ) → SameLines text text' → {a b : Listing} {o o' : List ℕ} → ReadsListing text out a o → ReadsListing text' out b o' → ReadAlike out a b o o'
  -- a text that is read has a node line for each node and an edge line for each edge, no more
  pub line-for-each : (text out : List ℕ) {a : Listing} {out' : List ℕ} → ReadsListing text out a out' → a.number ≡ 0
      → ((header_of (take a.count out')).nodes ≡ node_lines (lines_said text)) × ((header_of (take a.count out')).edges ≡ edge_lines (lines_said text))
