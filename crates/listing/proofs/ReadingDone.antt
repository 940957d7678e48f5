-- Reading a text comes to its promise: what was found of its lines, and the sheet that was laid of them.
-- Assumes nothing.
use Prim.Native.Nat.{ℕ, ◌-◌, ◌<◌, ◌≤◌}
use mathlib.Core.Path.{◌≡◌, refl, sym, ap, subst, ◌∙◌}
use mathlib.Core.Bool.{true, false, not, ◌&&◌, true≢false}
use mathlib.Core.List.{List, ◌++◌}
use native.Mathlib.Omega.{arith}
use native.Mathlib.Decide.{dec_lt}
use lib.ListN.{length, drop}
use borrow.Author.Tests.{ltb-false, not-false}
use Rattle.tables.specs.Count.{FirstStanding}
use Rattle.tables.proofs.Counts.{some_at}
use Rattle.tables.proofs.Keys.{eq-same}
use Rattle.tables.proofs.Tables.{and-true}
use Rattle.sheet.specs.declared.Half.TheVariants.{Nodes, Edges}
use Rattle.sheet.specs.Found.{PlaceIs}
use Rattle.sheet.specs.Limits.{max_nodes, max_edges, sheet_words}
use Rattle.sheet.specs.Refusals.{none, refuse}
use Rattle.sheet.specs.Stored.{header_six}
use Rattle.sheet.proofs.Accepting.{or-false}
use Rattle.sheet.proofs.Built.{built-long}
use Rattle.sheet.proofs.Refusing.{taken, line-none, refuse-some, refuse-none}
use Rattle.sheet.proofs.Writing.{gives-short, gives-written, gives_as}
use Rattle.lines.specs.declared.Line.{Line}
use Rattle.lines.specs.Naming.{is_node_line, from_line, to_line, line_key}
use Rattle.sorting.specs.Sorted.{most_sorted}
use Rattle.std.specs.Prelude.{Result}
use Rattle.sheet.specs.declared.fault.Fault.{Fault}
use Rattle.listing.specs.ListingTold.{listing_by}
use Rattle.listing.specs.declared.FirstFault.{FirstFault}
use Rattle.listing.specs.declared.Listing.{Listing}
use Rattle.listing.specs.Cut.{lines_said, line_at}
use Rattle.listing.specs.Faults.{says_this, node_lines, edge_lines, count_fault, listing_fault}
use Rattle.listing.specs.Laying.{key_in, first_edge, too_many_rows, RowWords, ReadsGood, too_long, too_many, too_short, laid}
use Rattle.listing.specs.LineByLine.{fault_told, LooksThrough, Tabled, lacks_end}
use Rattle.listing.specs.Meant.{Means}
use Rattle.listing.specs.Promises.{refusal_in, ReadsListing}
use Rattle.listing.proofs.MeantSheet.{Faultless, node-words-there, edge-words-there, node-count, edge_count, t-means}
use Rattle.listing.proofs.Unrefused.{text-line-good}
use Rattle.listing.proofs.Refused.{own-good, none-but-4, both_halves, over-sorted, refuses-text}

-- ---- what was found of the lines

module _ (text : List ℕ) (s : FirstFault) (L : LooksThrough (lines_said text) s) (whole : fault_told s.fault ≡ 0)
    (r : ℕ) (x : FirstStanding (λ i. says_this (lines_said text) i (line_at (lines_said text) i)) s.count r) (none-repeats : s.count ≤ r)
    (q : ℕ) (y : FirstStanding (λ i. lacks_end (lines_said text) s.count (line_at (lines_said text) i)) s.count q) (none-lacks : s.count ≤ q) where
  abbrev ls : List Line
  ls = lines_said text

  all-looked : s.count ≡ length ls
  all-looked = L.through whole

  unrepeated : (i j : ℕ) → j < length ls → i < j → line_key (line_at ls i) ≡ line_key (line_at ls j) → ⊥
  unfolding says_this
  unrepeated i j h g e = true≢false (sym (some_at _ j i g (eq-same _ _ e)) ∙ x.before j (omega (arith, all-looked)))

  ends_of : (i : ℕ) → i < length ls → is_node_line (line_at ls i) ≡ false → (says_this ls (length ls) (from_line (line_at ls i)) ≡ true) × (says_this ls (length ls) (to_line (line_at ls i)) ≡ true)
  ends_of i h e =
      let a : lacks_end ls s.count (line_at ls i) ≡ false = y.before i (omega (arith, all-looked)) in
      let b : not (says_this ls s.count (from_line (line_at ls i)) && says_this ls s.count (to_line (line_at ls i))) ≡ false = rw e at a in
      let c : (says_this ls s.count (from_line (line_at ls i)) ≡ true) × (says_this ls s.count (to_line (line_at ls i)) ≡ true) = and-true _ _ (not-false _ b) in
      (ap (λ (m : ℕ). says_this ls m (from_line (line_at ls i))) (sym all-looked) ∙ c.0, ap (λ (m : ℕ). says_this ls m (to_line (line_at ls i))) (sym all-looked) ∙ c.1)

  pub faultless : Faultless ls
  faultless =
      record {
        good = λ i h. text-line-good text i (own-good _ (L.good i (omega (arith, all-looked)))).0;
        once = λ i j h g e. one i j h g e (dec_lt i j) (dec_lt j i);
        apart = λ i h. (own-good _ (L.good i (omega (arith, all-looked)))).1;
        from = λ i h e. (ends_of i h e).0;
        to = λ i h e. (ends_of i h e).1;
      }
    where
      one : (i j : ℕ) → i < length ls → j < length ls → line_key (line_at ls i) ≡ line_key (line_at ls j) → Dec (i < j) → Dec (j < i) → i ≡ j
      one i j h g e (yes l) m = absurd (unrepeated i j g l e)
      one i j h g e (no l) (yes m) = absurd (unrepeated j i h m (sym e))
      one i j h g e (no l) (no m) = omega arith

  refused-by : refuse (count_fault ls) 0 0 none ≡ listing_fault text
  refused-by = none-but-4 ls s L r x none-repeats whole q y none-lacks

  module _ (rows order : List ℕ) (T : Tabled ls s.count rows order) (out : List ℕ) where
    T' : Tabled ls (length ls) rows order
    T' = subst (λ (n : ℕ). Tabled ls n rows order) all-looked T

    -- 4
    four-refuses : (a : Listing) → a ≡ record { number = 4; sheet = 0; row = 0; count = 0 } → too_many_rows (node_lines ls) (edge_lines ls) ≡ true → ReadsListing text out a out
    unfolding count_fault
    four-refuses a e h =
        refuses-text text out (record { number = 4; sheet = 0; row = 0 }) a (sym (refuse-some 4 0 0 none (λ z. omega (arith, z))) ∙ ap (λ (k : ℕ). refuse k 0 0 none) (taken 4 _ 0 h) ∙ refused-by) (λ z. omega (arith, z)) e

    not-refused : too_many_rows (node_lines ls) (edge_lines ls) ≡ false → none ≡ listing_fault text
    unfolding count_fault
    not-refused h = sym (refuse-none _ 0 0 none (line-none 4 _ 0 h refl)) ∙ refused-by

    module _ (few : s.count ≤ most_sorted) (n : ℕ) (N : PlaceIs (key_in rows order) (length order) first_edge n) where
      few' : length ls ≤ most_sorted
      few' = omega (arith, all-looked)

      counts : too_many_rows n (s.count - n) ≡ too_many_rows (node_lines ls) (edge_lines ls)
      counts =
          let a = node-count ls faultless rows order few' T' n N in
          let b : edge_lines ls ≡ s.count - n = edge_count ls faultless rows order few' T' n N ∙ ap (λ (m : ℕ). m - n) (sym all-looked) in
          λ i. too_many_rows (sym a i) (sym b i)

      limits : too_many_rows n (s.count - n) ≡ false → (n ≤ max_nodes) × (length ls - n ≤ max_edges 1)
      limits h =
          let o = or-false _ _ h in
          let a = ltb-false max_nodes n o.0 in
          let b = ltb-false (max_edges 1) (s.count - n) o.1 in
          (a, omega (arith, all-looked))

      sheet-size : (wn we : List ℕ) → RowWords Nodes rows order 0 n wn → RowWords Edges rows order n (length ls - n) we → sheet_words 1 n (s.count - n) ≡ length (header_six 1 1 n (length ls - n) ++ wn ++ we)
      sheet-size wn we WN WE = ap (λ (m : ℕ). sheet_words 1 n (m - n)) all-looked ∙ sym (built-long 1 1 n (length ls - n) wn we WN.long WE.long)

      meant : too_many_rows n (s.count - n) ≡ false → (wn we : List ℕ) → RowWords Nodes rows order 0 n wn → RowWords Edges rows order n (length ls - n) we → Means ls (header_six 1 1 n (length ls - n) ++ wn ++ we)
      meant h wn we WN WE = let l = limits h in t-means ls faultless rows order few' T' n N wn we l.0 l.1 WN WE

    pub read-good-done : (a : Result ℕ Fault) (out' : List ℕ) → ReadsGood s.count rows order out a out' → ReadsListing text out (listing_by a) out'
    read-good-done a out' (too_long h) = four-refuses _ refl (over-sorted (node_lines ls) (edge_lines ls) (length ls) (both_halves ls) (omega (arith, all-looked)))
    read-good-done a out' (too_many n few N h) = four-refuses _ refl (sym (counts few n N) ∙ h)
    read-good-done a out' (too_short n few N h short) =
        let wn = node-words-there ls faultless rows order (few' few n N) T' n N in
        let we = edge-words-there ls faultless rows order (few' few n N) T' n N in
        let size = sheet-size few n N wn.0 we.0 wn.1 we.1 in
        record {
          sheet = header_six 1 1 n (length ls - n) ++ wn.0 ++ we.0;
          means = λ z. meant few n N h wn.0 we.0 wn.1 we.1;
          gives = gives_as none (listing_fault text) _ out (refusal_in (listing_by a)) (listing_by a).count out (not-refused (sym (counts few n N) ∙ h)) (gives-short _ out (omega (arith, size, short)));
        }
    read-good-done a out' (laid n o few N h room S) =
        let WE : RowWords Edges rows order n (length ls - n) S.edge-words = subst (λ (m : ℕ). RowWords Edges rows order n (m - n) S.edge-words) all-looked S.edges in
        let size = sheet-size few n N S.node-words S.edge-words S.nodes WE in
        record {
          sheet = header_six 1 1 n (length ls - n) ++ S.node-words ++ S.edge-words;
          means = λ z. meant few n N h S.node-words S.edge-words S.nodes WE;
          gives = gives_as none (listing_fault text) _ out (refusal_in (listing_by a)) (listing_by a).count out' (not-refused (sym (counts few n N) ∙ h))
              (gives-written _ out out' _ size room (S.holds ∙ ap (λ (m : ℕ). (header_six 1 1 n (m - n) ++ S.node-words ++ S.edge-words) ++ drop (length (header_six 1 1 n (m - n) ++ S.node-words ++ S.edge-words)) out) all-looked));
        }
