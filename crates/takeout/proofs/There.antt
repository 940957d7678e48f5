-- Any run_rule of offices of an accepted sheet has its sheet, no longer than the sheet itself: its rows are rows of the sheet, so they are counted, placed and laid.
-- Assumes nothing.
use Prim.Native.Nat.{ℕ, zero, suc, ◌+◌, ◌^◌, ◌<◌, ◌≤◌}
use mathlib.Core.Path.{◌≡◌, refl, sym, subst}
use mathlib.Core.Bool.{Bool, true, false}
use mathlib.Core.List.{List, [], ◌∷◌}
use native.Mathlib.Omega.{arith}
use native.Mathlib.Decide.{dec_lt}
use lib.ListN.{length, get_or}
use Rattle.tables.specs.Key.{Key, below_key}
use Rattle.sheet.specs.declared.Half.{Half}
use Rattle.sheet.specs.declared.Half.TheVariants.{Nodes, Edges}
use Rattle.sheet.specs.Limits.{max_offices, max_nodes}
use Rattle.sheet.specs.Rows.{header_of, count_in}
use Rattle.sheet.specs.Named.{row_at}
use Rattle.sheet.specs.Accepted.{RowsRise, Accepted}
use Rattle.sheet.specs.Found.{PlaceIs}
use Rattle.sheet.proofs.Widths.{place-rises}
use Rattle.sheet.proofs.Places.{Between, whole-between, met, raise, sink}
use Rattle.meaning.specs.Join.{IsTaken}
use Rattle.combine.specs.declared.Rule.{Rule}
use Rattle.combine.specs.declared.Rule.TheVariants.{Run}
use Rattle.combine.specs.declared.Measure.{Measure}
use Rattle.combine.specs.Combined.{keys, PlacesIn}
use Rattle.combine.specs.Rules.{makes}
use Rattle.combine.specs.Sheets.{Measured}
use Rattle.combine.proofs.Combining.{HasCombination, combination}
use Rattle.combine.proofs.Reading.{half-table}
use Rattle.combine.proofs.Ruling.{zero-run}
use Rattle.combine.proofs.Whole.{there}
use Rattle.takeout.proofs.Running.{run-pair, run-few, run-taken}

-- ---- a key has a place among rising rows

record HasPlace (f : ℕ → Key) (n : ℕ) (k : Key) : Type 0 where
  at : ℕ
  is : PlaceIs f n k at

-- looked for from row i on
place-from : (f : ℕ → Key) (n : ℕ) → RowsRise f n → (k : Key) (left i : ℕ) → Between f n k i n → n ≤ i + left → HasPlace f n k
place-from f n up k zero i b l = record { at = i; is = met f n k i n b (omega arith) }
place-from f n up k (suc left) i b l = go (dec_lt i n) (below_key (f i) k) refl (place-from f n up k left (i + 1))
  where
    go : Dec (i < n) → (t : Bool) → below_key (f i) k ≡ t → (Between f n k (i + 1) n → n ≤ i + 1 + left → HasPlace f n k) → HasPlace f n k
    go (no d) t e more = record { at = i; is = met f n k i n b (omega arith) }
    go (yes d) true e more = more (raise f n up k i n i b d e) (omega arith)
    go (yes d) false e more = record { at = i; is = met f n k i i (sink f n up k i n i b (omega arith) d e) (omega arith) }

-- the first n values, as a list
abbrev list_of : ℕ → (ℕ → ℕ) → List ℕ
list_of zero f = []
list_of (suc n) f = f 0 ∷ list_of n (λ i. f (suc i))

listed-long : (n : ℕ) (f : ℕ → ℕ) → length (list_of n f) ≡ n
listed-long zero f = refl
listed-long (suc n) f = omega (arith, listed-long n (λ i. f (suc i)))

listed_at : (n : ℕ) (f : ℕ → ℕ) (i : ℕ) → i < n → get_or (list_of n f) i 0 ≡ f i
listed_at zero f i l = absurd (omega (arith, l))
listed_at (suc n) f zero l = refl
listed_at (suc n) f (suc i) l = listed_at n (λ j. f (suc j)) i (omega (arith, l))

-- ---- the sheet

-- the sheet of a run_rule of n offices after the first k
pub record RunSheet (s : List ℕ) (k n : ℕ) : Type 0 where
  pub sheet : List ℕ
  pub is : IsTaken s k n sheet
  pub fits : length sheet ≤ length s

module _ (s : List ℕ) (w : Accepted s) (k n : ℕ) where
  abbrev run_rule : Rule
  run_rule = Run (2 ^ k) (2 ^ n)

  rows : (half : Half) → HasCombination (makes run_rule) (count_in half (header_of s)) (row_at half s) (count_in half (header_of s)) (row_at half s)
  rows half = combination (makes run_rule) (zero-run (2 ^ k) (2 ^ n)) _ (row_at half s) (half-table s (header_of s) w half) _ (row_at half s) (half-table s (header_of s) w half)

  -- where a node row of the sheet goes
  place : (x : ℕ) → HasPlace (keys (rows Nodes).row) (rows Nodes).rows (row_at Nodes s x).key
  place x = place-from (keys (rows Nodes).row) (rows Nodes).rows (rows Nodes).combined.table.up (row_at Nodes s x).key (rows Nodes).rows 0 (whole-between (keys (rows Nodes).row) (rows Nodes).rows (row_at Nodes s x).key) (omega arith)

  map : List ℕ
  map = list_of max_nodes (λ x. (place x).at)

  measure : Measure
  measure = record { nodes = (rows Nodes).rows; edges = (rows Edges).rows }

  placed : PlacesIn (row_at Nodes s) (header_of s).nodes (λ x. get_or map x 0) (rows Nodes).rows (rows Nodes).row
  unfolding map
  placed x l = subst (PlaceIs (keys (rows Nodes).row) (rows Nodes).rows (row_at Nodes s x).key) (sym (listed_at max_nodes (λ y. (place y).at) x (omega (arith, w.nodes.header.nodes)))) (place x).is

  measured : Measured run_rule run_rule s (header_of s) s (header_of s) map map measure
  unfolding map measure
  measured =
      record {
        first-long = listed-long max_nodes (λ x. (place x).at);
        second-long = listed-long max_nodes (λ x. (place x).at);
        node-rows = record { row = (rows Nodes).row; combined = (rows Nodes).combined; count = (rows Nodes).count; first = λ h. placed; second = λ h. placed };
        edge-rows = (rows Edges).count;
      }

  pub run-sheet : 1 ≤ n → n ≤ max_offices → RunSheet s k n
  run-sheet low high =
      let few = run-few s (header_of s) w k n (2 ^ k) (2 ^ n) refl refl map map measure measured in
      let h = w.nodes.header in
      let T = there run_rule run_rule n s (header_of s) s (header_of s) map map measure (run-pair s (header_of s) w k n (2 ^ k) (2 ^ n) refl refl low high) measured (omega (arith, few.0, h.nodes)) (omega (arith, few.1, h.edges)) in
      record { sheet = T.sheet; is = run-taken s (header_of s) w k n (2 ^ k) (2 ^ n) refl refl T.sheet T.is; fits = omega (arith, T.long, few.0, place-rises Edges (header_of s).form _ _ few.1, h.whole) }
