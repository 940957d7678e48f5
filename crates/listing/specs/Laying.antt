-- How the rows of a sheet are made of sorted lines: node lines stand in front, and a place in the order is a row's number.
-- Assumes nothing.
use Rattle.std.specs.Prelude.{ℕ, Result, Ok, Err, ◌+◌, ◌-◌, ◌*◌, ◌<◌, ◌≤◌, ◌≡◌, Bool, true, false, ◌||◌, List, [], ◌∷◌, ◌++◌, length, get_or, drop}
use Rattle.tables.specs.Key.{Key}
use Rattle.sheet.specs.declared.Cells.{Cells}
use Rattle.sheet.specs.declared.Half.{Half}
use Rattle.sheet.specs.declared.Half.TheVariants.{Nodes, Edges}
use Rattle.sheet.specs.Found.{PlaceIs}
use Rattle.sheet.specs.Limits.{max_nodes, max_edges, sheet_words}
use Rattle.sheet.specs.Refusals.{◌below◌}
use Rattle.sheet.specs.Rows.{row_place, cells_in}
use Rattle.sheet.specs.Stored.{header_six}
use Rattle.lines.specs.declared.Line.{Line}
use Rattle.lines.specs.Naming.{kind_named, from_line, to_line, line_key}
use Rattle.sorting.specs.Sorted.{most_sorted, four_at}
use Rattle.sheet.specs.declared.fault.Fault.{Fault}
use Rattle.sheet.specs.declared.fault.Fault.TheVariants.{RowCount, OutputShort}

-- the line whose words are row i of a table
abbrev pub line_of_row : List ℕ → ℕ → Line
line_of_row rows i = record { fault = 0; form = get_or rows (4 * i) 0; first = get_or rows (4 * i + 1) 0; second = get_or rows (4 * i + 2) 0; third = get_or rows (4 * i + 3) 0 }

-- the line at a place in the order, and its key
abbrev pub line_in : List ℕ → List ℕ → ℕ → Line
line_in rows order p = line_of_row rows (get_or order p 0)

abbrev pub key_in : List ℕ → List ℕ → ℕ → Key
key_in rows order p = four_at rows (get_or order p 0)

-- the place of a line in the order
abbrev pub PlaceOfLine : List ℕ → List ℕ → Line → ℕ → Type 0
PlaceOfLine rows order l r = PlaceIs (key_in rows order) (length order) (line_key l) r

-- the words of a node row that a line makes
abbrev pub line_cells : Line → Cells
line_cells l = record { first = l.form; second = l.first; third = l.second; offices = 1 }

-- the words of an edge row that a line makes: its ends by their places
pub record EdgeCells (rows order : List ℕ) (l : Line) (c : Cells) : Type 0 where
  pub kind : c.first ≡ kind_named l
  pub from : PlaceOfLine rows order (from_line l) c.second
  pub to : PlaceOfLine rows order (to_line l) c.third
  pub office : c.offices ≡ 1

-- of either half
abbrev pub CellsFor : Half → List ℕ → List ℕ → Line → Cells → Type 0
CellsFor Nodes rows order l c = c ≡ line_cells l
CellsFor Edges rows order l c = EdgeCells rows order l c

-- the words of the rows that lines from a place on make
pub record RowWords (half : Half) (rows order : List ℕ) (from count : ℕ) (words : List ℕ) : Type 0 where
  pub long : length words ≡ row_place half 1 count
  pub each : (k : ℕ) → k < count → CellsFor half rows order (line_in rows order (from + k)) (cells_in half 1 words k)

-- they stand in front of a table, and behind them what stood there
pub record RowsLaid (half : Half) (rows order : List ℕ) (from count : ℕ) (table table' : List ℕ) : Type 0 where
  pub words : List ℕ
  pub spell : RowWords half rows order from count words
  pub holds : table' ≡ words ++ drop (length words) table

-- a whole sheet of one office: the header, n node rows, e edge rows
pub record SheetLaid (rows order : List ℕ) (n e : ℕ) (out out' : List ℕ) : Type 0 where
  pub node-words : List ℕ
  pub edge-words : List ℕ
  pub nodes : RowWords Nodes rows order 0 n node-words
  pub edges : RowWords Edges rows order n e edge-words
  pub holds : out' ≡ (header_six 1 1 n e ++ node-words ++ edge-words) ++ drop (length (header_six 1 1 n e ++ node-words ++ edge-words)) out

-- the words that every edge line has or has higher, and every node line has lower
abbrev pub first_edge : Key
first_edge = 5 ∷ 0 ∷ 0 ∷ 0 ∷ []

-- so many rows are more than a sheet of form 1 has
abbrev pub too_many_rows : ℕ → ℕ → Bool
too_many_rows n e = max_nodes below n || max_edges 1 below e

-- the sheet of the lines in an order, n of them node lines: 4, then 25, or it is laid
pub data ReadsGood (count : ℕ) (rows order out : List ℕ) : Result ℕ Fault → List ℕ → Type 0 where
  too_long : most_sorted < count → ReadsGood count rows order out (Err RowCount) out
  too_many : (n : ℕ) → count ≤ most_sorted → PlaceIs (key_in rows order) (length order) first_edge n → too_many_rows n (count - n) ≡ true → ReadsGood count rows order out (Err RowCount) out
  too_short : (n : ℕ) → count ≤ most_sorted → PlaceIs (key_in rows order) (length order) first_edge n → too_many_rows n (count - n) ≡ false → length out < sheet_words 1 n (count - n)
      → ReadsGood count rows order out (Err OutputShort) out
  laid : (n : ℕ) (out' : List ℕ) → count ≤ most_sorted → PlaceIs (key_in rows order) (length order) first_edge n → too_many_rows n (count - n) ≡ false → sheet_words 1 n (count - n) ≤ length out
      → SheetLaid rows order n (count - n) out out' → ReadsGood count rows order out (Ok (sheet_words 1 n (count - n))) out'
