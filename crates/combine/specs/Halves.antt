-- Node rows and edge rows alike: what the combining functions make of two sheets'.
-- Assumes nothing.
use Rattle.std.specs.Prelude.{ℕ, ◌^◌, ◌<◌, ◌≤◌, ◌≡◌, cond, List, ◌++◌, ltb, length, get_or, drop, set}
use Rattle.std.proofs.lemmas.List.Edits.{sets}
use Rattle.tables.specs.Key.{Key}
use Rattle.tables.specs.Table.{Row}
use Rattle.sheet.specs.declared.Cells.{Cells}
use Rattle.sheet.specs.declared.Half.{Half}
use Rattle.sheet.specs.declared.Header.{Header}
use Rattle.sheet.specs.Rows.{edge_table, count_in, row_place, cells_in, cells_at}
use Rattle.sheet.specs.Named.{row_at}
use Rattle.sheet.specs.Accepted.{WellFormed}
use Rattle.sheet.specs.Stored.{stored}
use Rattle.combine.specs.declared.Rule.{Rule}
use Rattle.combine.specs.Combined.{keys, Combined, rows_kept, Stepped, given, PlacesIn}
use Rattle.combine.specs.Rules.{makes, Safe}

-- a number's entry in a map, or itself where the map has none: the empty map leaves every number
unfoldable pub through : List ℕ → ℕ → ℕ
through spots x = get_or spots x x

-- a row under other marks, its second and third word by a map
unfoldable pub spelled : List ℕ → Cells → ℕ → Cells
spelled spots c marks = record { first = c.first; second = through spots c.second; third = through spots c.third; offices = marks }

-- two sheets that passed the check, with their headers, and a rule that is safe on their marks
pub record Inputs (a : List ℕ) (h : Header) (b : List ℕ) (g : Header) (rule : Rule) : Type 0 where
  pub first : WellFormed a (edge_table a) h
  pub second : WellFormed b (edge_table b) g
  pub safe : (x y : ℕ) → x < 2 ^ h.offices → y < 2 ^ g.offices → Safe rule x y
  pub none : makes rule 0 0 ≡ 0

-- how far a walk has come in each table after a row, and the row's marks
pub record Next : Type 0 where
  pub i : ℕ
  pub j : ℕ
  pub marks : ℕ

-- a step, and its key
pub record Moves (n : ℕ) (f : ℕ → Row) (m : ℕ) (g : ℕ → Row) (i j next-i next-j : ℕ) : Type 0 where
  pub key : Key
  pub stepped : Stepped n (keys f) m (keys g) i j key next-i next-j

-- .. with the marks that the rule makes there
pub record MarkedStep (rule : Rule) (half : Half) (a : List ℕ) (h : Header) (b : List ℕ) (g : Header) (i j : ℕ) (r : Next) : Type 0 where
  pub moves : Moves (count_in half h) (row_at half a) (count_in half g) (row_at half b) i j r.i r.j
  pub made : r.marks ≡ makes rule (given (row_at half a) i r.i) (given (row_at half b) j r.j)

-- how many rows the combination of a half has
abbrev pub kept_rows : Rule → Half → List ℕ → Header → List ℕ → Header → ℕ
kept_rows rule half a h b g = rows_kept (makes rule) (count_in half h) (row_at half a) (count_in half g) (row_at half b)

-- a half's combination
abbrev pub HalfIs : Rule → Half → List ℕ → Header → List ℕ → Header → ℕ → (ℕ → Row) → Type 0
HalfIs rule half a h b g k row = Combined (makes rule) (count_in half h) (row_at half a) (count_in half g) (row_at half b) k row

-- a map after a row's place is noted, where the walk took the row
unfoldable pub noted : List ℕ → ℕ → ℕ → ℕ → List ℕ
noted spots from to place = cond (ltb from to) (set spots from place) spots

-- the rows of the combination, counted, and where the rows of both sheets stand in it, as far as the maps go
pub record Surveyed (rule : Rule) (half : Half) (a : List ℕ) (h : Header) (b : List ℕ) (g : Header) (ma mb : List ℕ) (k : ℕ) : Type 0 where
  pub row : ℕ → Row
  pub combined : HalfIs rule half a h b g k row
  pub count : k ≡ kept_rows rule half a h b g
  pub first : count_in half h ≤ length ma → PlacesIn (row_at half a) (count_in half h) (λ x. get_or ma x 0) k row
  pub second : count_in half g ≤ length mb → PlacesIn (row_at half b) (count_in half g) (λ x. get_or mb x 0) k row

-- a row's words are those of a row of one of the sheets that has its key
pub data Spelled (half : Half) (a : List ℕ) (h : Header) (b : List ℕ) (g : Header) (ma mb : List ℕ) (r : Row) (c : Cells) : Type 0 where
  by_first : (x : ℕ) → x < count_in half h → (row_at half a x).key ≡ r.key → c ≡ spelled ma (cells_at half a x) r.marks → Spelled half a h b g ma mb r c
  by-second : (y : ℕ) → y < count_in half g → (row_at half b y).key ≡ r.key → c ≡ spelled mb (cells_at half b y) r.marks → Spelled half a h b g ma mb r c

-- the words of k rows
pub record Words (half : Half) (a : List ℕ) (h : Header) (b : List ℕ) (g : Header) (ma mb : List ℕ) (k : ℕ) (row : ℕ → Row) (words : List ℕ) : Type 0 where
  pub long : length words ≡ row_place half h.form k
  pub each : (u : ℕ) → u < k → Spelled half a h b g ma mb (row u) (cells_in half h.form words u)

-- the combination's words stand in front of the output, and behind them what stood there
pub record Written (rule : Rule) (half : Half) (a : List ℕ) (h : Header) (b : List ℕ) (g : Header) (ma mb : List ℕ) (k : ℕ) (out out' : List ℕ) : Type 0 where
  pub row : ℕ → Row
  pub words : List ℕ
  pub combined : HalfIs rule half a h b g k row
  pub spells : Words half a h b g ma mb k row words
  pub holds : out' ≡ words ++ drop (length words) out

-- an output after a row was stored as row k, where it has marks
unfoldable pub stored_at : Half → ℕ → List ℕ → ℕ → Cells → List ℕ
stored_at half form out k c = cond (ltb 0 c.offices) (sets out (row_place half form k) (stored half form c)) out

-- the row that a step takes: the first table's where it takes one
unfoldable pub taken_cells : Half → List ℕ → List ℕ → List ℕ → List ℕ → ℕ → ℕ → ℕ → ℕ → Cells
taken_cells half a ma b mb i next-i j marks = cond (ltb i next-i) (spelled ma (cells_at half a i) marks) (spelled mb (cells_at half b j) marks)
