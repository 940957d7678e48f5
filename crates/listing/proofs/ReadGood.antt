-- How reading goes on where nothing but 4 and 25 can refuse the lines.
-- Assumes nothing.
use Prim.Native.Nat.{ℕ, ◌-◌, ◌<◌, ◌≤◌, ◌*◌}
use mathlib.Core.Path.{◌≡◌, sym, subst}
use mathlib.Core.List.{List, [], ◌∷◌, ◌++◌}
use native.Mathlib.Omega.{arith}
use lib.ListN.{length, take}
use Rattle.std.specs.Prelude.{Ok, Err}
use Rattle.sheet.specs.declared.fault.Fault.TheVariants.{RowCount, OutputShort}
use Rattle.tables.specs.Key.{Key}
use Rattle.sheet.specs.Found.{PlaceIs}
use Rattle.sheet.specs.Limits.{max_nodes, max_edges, sheet_words}
use Rattle.sorting.specs.Sorted.{most_sorted, key_in_order, four_of, Sorted}
use Rattle.sorting.specs.declared.Four.{Four}
use Rattle.sorting.proofs.Orders.{place-four}
use Rattle.listing.specs.Laying.{key_in, first_edge, SheetLaid, ReadsGood, too_long, too_many, too_short, laid}
use Rattle.listing.proofs.Refused.{many-nodes, many-edges, rows_fit}
use lib.Seq.{take_at}
use Rattle.lines.specs.declared.Line.{Line}
use Rattle.listing.specs.declared.FirstFault.{FirstFault}
use Rattle.listing.specs.LineByLine.{LooksThrough, InTable, Tabled}

module _ (count : ℕ) (rows order out : List ℕ) where
  pub good-too-long : most_sorted < count → ReadsGood count rows order out (Err RowCount) out
  good-too-long h = too_long h

  module _ (few : count ≤ most_sorted) (w : Four) (f : four_of w ≡ first_edge) (n : ℕ) (P : PlaceIs (key_in_order rows order) (length order) (four_of w ++ (0 ∷ [])) n) where
    place : PlaceIs (key_in rows order) (length order) first_edge n
    place = subst (λ (k : Key). PlaceIs (key_in rows order) (length order) k n) f (place-four rows order (length order) w n P)

    pub good-many-nodes : max_nodes < n → ReadsGood count rows order out (Err RowCount) out
    good-many-nodes h = too_many n few place (many-nodes n (count - n) h)

    module _ (few-nodes : n ≤ max_nodes) where
      pub good-many-edges : max_edges 1 < count - n → ReadsGood count rows order out (Err RowCount) out
      good-many-edges h = too_many n few place (many-edges n (count - n) few-nodes h)

      module _ (few-edges : count - n ≤ max_edges 1) (size : ℕ) (is : size ≡ sheet_words 1 n (count - n)) where
        pub good-short : length out < size → ReadsGood count rows order out (Err OutputShort) out
        good-short h = too_short n few place (rows_fit n (count - n) few-nodes few-edges) (omega arith)

        pub good-laid : (out' : List ℕ) → length order ≡ count → size ≤ length out → SheetLaid rows order n (length order - n) out out' → ReadsGood count rows order out (Ok size) out'
        good-laid out' long h S =
            subst (λ (m : ℕ). ReadsGood count rows order out (Ok m) out') (sym is)
            (laid n out' few place (rows_fit n (count - n) few-nodes few-edges) (omega arith) (subst (λ (m : ℕ). SheetLaid rows order n (m - n) out out') long S))

-- ---- the table and its order

pub tabled-by : (ls : List Line) (s : FirstFault) → LooksThrough ls s → (m : ℕ) → (m ≤ most_sorted) × (m ≤ s.count) × (s.count ≤ most_sorted → m ≡ s.count) → (rows o post : List ℕ) (k : ℕ)
    → k ≡ m → length o ≡ k → 4 * most_sorted ≤ length rows → InTable ls m rows → Sorted rows k o → Tabled ls s.count rows (take (m - 0) (o ++ post))
tabled-by ls s L m n rows o post k e long room filled sorted =
    let z : length o ≡ m - 0 = omega arith in
    subst (Tabled ls s.count rows) (sym (take_at o post (m - 0) z))
    (record {
      inside = L.inside;
      long = λ few. omega (arith, n.2 few);
      filled = λ few i h. filled i (omega (arith, n.2 few));
      in_order = record { few = omega (arith, n.0); room = omega (arith, n.0); sorted = subst (λ (j : ℕ). Sorted rows j o) (sym long) sorted };
    })
