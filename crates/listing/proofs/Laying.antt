-- The rows of a sheet are laid line by line, in the order of the lines.
-- Assumes nothing.
use Prim.Native.Nat.{ℕ, zero, suc, ◌+◌, ◌-◌, ◌*◌, ◌<◌, ◌≤◌}
use mathlib.Core.Path.{◌≡◌, sym, ap, subst, ◌∙◌, refl}
use mathlib.Core.List.{List, [], ◌++◌}
use native.Mathlib.Omega.{arith}
use lib.ListN.{length, get_or, take, drop, length-append, length-drop}
use lib.Seq.{sets}
use borrow.Author.Count.{below_more}
use Rattle.sheet.specs.declared.Cells.{Cells}
use Rattle.sheet.specs.declared.Half.{Half}
use Rattle.sheet.specs.declared.Half.TheVariants.{Nodes, Edges}
use Rattle.sheet.specs.Limits.{edges_from, sheet_words}
use Rattle.sheet.specs.Rows.{row_place, row_words}
use Rattle.sheet.specs.Stored.{header_six, stored}
use Rattle.sheet.proofs.Storing.{stored-long, cells-kept, cells-new, stored_on}
use Rattle.sheet.proofs.Tails.{two-tails}
use Rattle.sheet.proofs.Widths.{place-start, place-next, place-before}
use Rattle.sorting.specs.Sorted.{four_at, four_of}
use Rattle.sorting.specs.declared.Four.{Four}
use Rattle.listing.specs.Laying.{line_of_row, line_in, CellsFor, RowWords, RowsLaid, SheetLaid, PlaceOfLine, line_cells}
use Rattle.lines.specs.declared.Line.{Line}
use Rattle.listing.specs.LineByLine.{InOrder}
use Rattle.lines.specs.Naming.{kind_named, from_line, to_line}

-- a row of the table, by its words
pub row-line : (rows : List ℕ) (i : ℕ) (w : Four) → four_of w ≡ four_at rows i → record { fault = 0; form = w.first; first = w.second; second = w.third; third = w.fourth } ≡ line_of_row rows i
unfolding four_at
row-line rows i w e =
    let a : w.first ≡ get_or rows (4 * i) 0 = cc e in
    let b : w.second ≡ get_or rows (4 * i + 1) 0 = cc e in
    let c : w.third ≡ get_or rows (4 * i + 2) 0 = cc e in
    let d : w.fourth ≡ get_or rows (4 * i + 3) 0 = cc e in
    λ k. record { fault = 0; form = a k; first = b k; second = c k; third = d k }

pub row_room : (rows order : List ℕ) → InOrder rows order → (p : ℕ) → p < length order → 4 * get_or order p 0 + 4 ≤ length rows
row_room rows order o p h = omega (arith, o.sorted.inside p h, o.room)

-- the words of a row, half by half
module _ (half : Half) (rows order : List ℕ) (p : ℕ) (l : Line) (is : l ≡ line_in rows order p) where
  pub node_made : half ≡ Nodes → CellsFor half rows order (line_in rows order p) (line_cells l)
  node_made e = rw e (ap line_cells is)

  pub edge-made : half ≡ Edges → (kind from to : ℕ) (a b : Line) → kind ≡ kind_named l → a ≡ from_line l → PlaceOfLine rows order a from → b ≡ to_line l → PlaceOfLine rows order b to
      → CellsFor half rows order (line_in rows order p) (record { first = kind; second = from; third = to; offices = 1 })
  edge-made e kind from to a b k f x g y =
      rw e (record {
        kind = k ∙ ap kind_named is;
        from = subst (λ (z : Line). PlaceOfLine rows order z from) (f ∙ ap from_line is) x;
        to = subst (λ (z : Line). PlaceOfLine rows order z to) (g ∙ ap to_line is) y;
        office = refl;
      })

-- ---- row by row

-- one row more behind the words of k
module _ (half : Half) (rows order : List ℕ) (from : ℕ) where
  pub words-none : RowWords half rows order from 0 []
  words-none = record { long = sym (place-start half 1); each = λ k h. absurd (omega arith) }

  pub words_more : (k : ℕ) (words : List ℕ) (c : Cells) → RowWords half rows order from k words → CellsFor half rows order (line_in rows order (from + k)) c → RowWords half rows order from (k + 1) (words ++ stored half 1 c)
  words_more k words c W is =
      record {
        long = length-append words (stored half 1 c) ∙ omega (arith, W.long, stored-long half 1 c, place-next half 1 k);
        each = below_more _ k
            (λ u h. subst (CellsFor half rows order (line_in rows order (from + u))) (sym (cells-kept half 1 words (stored half 1 c) u (omega (arith, W.long, place-before half 1 u k h)))) (W.each u h))
            (subst (CellsFor half rows order (line_in rows order (from + k))) (sym (cells-new half 1 words c k W.long)) is);
      }

  -- there are such words, where each line has its cells
  pub row-words-there : (count : ℕ) → ((k : ℕ) → k < count → (c : Cells) × CellsFor half rows order (line_in rows order (from + k)) c) → (words : List ℕ) × RowWords half rows order from count words
  row-words-there zero cells = ([], words-none)
  row-words-there (suc k) cells =
      let w = row-words-there k (λ j h. cells j (omega arith)) in
      let c = cells k (omega arith) in
      let z : k + 1 ≡ suc k = omega arith in
      (w.0 ++ stored half 1 c.0, subst (λ (n : ℕ). RowWords half rows order from n (w.0 ++ stored half 1 c.0)) z (words_more k w.0 c.0 w.1 c.1))

-- k rows are laid
pub record LaidTo (half : Half) (rows order : List ℕ) (from : ℕ) (table : List ℕ) (k : ℕ) (table' : List ℕ) : Type 0 where
  pub words : List ℕ
  pub spell : RowWords half rows order from k words
  pub holds : table' ≡ words ++ drop (row_place half 1 k) table

module _ (half : Half) (rows order : List ℕ) (from : ℕ) (table : List ℕ) where
  pub laid_none : LaidTo half rows order from table 0 table
  laid_none = record { words = []; spell = words-none half rows order from; holds = ap (λ (n : ℕ). drop n table) (sym (place-start half 1)) }

  module _ (k : ℕ) (table' : List ℕ) (L : LaidTo half rows order from table k table') where
    pub laid-long : row_place half 1 k ≤ length table → length table' ≡ length table
    laid-long h = ap length L.holds ∙ length-append L.words (drop (row_place half 1 k) table) ∙ omega (arith, L.spell.long, length-drop (row_place half 1 k) table)

    pub laid_more : (c : Cells) (next : List ℕ) → row_place half 1 k + row_words half 1 ≤ length table → CellsFor half rows order (line_in rows order (from + k)) c
        → next ≡ sets table' (row_place half 1 k) (stored half 1 c) → LaidTo half rows order from table (k + 1) next
    laid_more c next room is e =
        record {
          words = L.words ++ stored half 1 c;
          spell = words_more half rows order from k L.words c L.spell is;
          holds = e ∙ stored_on half 1 L.words table' table k c L.spell.long L.holds room;
        }

  pub laid-all : (count k : ℕ) (table' : List ℕ) → LaidTo half rows order from table k table' → k ≡ count → RowsLaid half rows order from count table table'
  laid-all count k table' L e =
      record {
        words = L.words;
        spell = subst (λ (n : ℕ). RowWords half rows order from n L.words) e L.spell;
        holds = L.holds ∙ ap (λ (n : ℕ). L.words ++ drop n table) (sym L.spell.long);
      }

-- ---- the whole sheet

pub sheet-laid : (rows order : List ℕ) (n e : ℕ) (out l : List ℕ) → sheet_words 1 n e ≤ length out → l ≡ sets out 0 (header_six 1 1 n e)
    → (t : List ℕ) → RowsLaid Nodes rows order 0 n (take (length l - 6) (drop 6 l)) t → (k : List ℕ) → k ≡ take 6 l ++ (t ++ drop (length l - 6) (drop 6 l))
    → (u : List ℕ) → RowsLaid Edges rows order n e (take (length k - edges_from n) (drop (edges_from n) k)) u
    → SheetLaid rows order n e out (take (edges_from n) k ++ (u ++ drop (length k - edges_from n) (drop (edges_from n) k)))
sheet-laid rows order n e out l room first t N k second u E =
    record {
      node-words = N.words;
      edge-words = E.words;
      nodes = N.spell;
      edges = E.spell;
      holds = two-tails 1 1 n e out N.words E.words N.spell.long E.spell.long room l t k u first N.holds second E.holds;
    }
