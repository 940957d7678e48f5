-- Two rising tables combined key by key: the marks at each key are a function of the marks that both tables have there, and a key whose marks are 0 has no row.
-- Assumes nothing.
use Rattle.std.specs.Prelude.{ℕ, ◌+◌, ◌<◌, ◌≤◌, ◌≡◌, Bool, true, not, cond, ◌&&◌, ltb}
use Rattle.tables.specs.Count.{how_many, has}
use Rattle.tables.specs.Key.{Key, below_key}
use Rattle.tables.specs.Table.{Row, rows_of, marks_at}
use Rattle.sheet.specs.Accepted.{RowsRise}
use Rattle.sheet.specs.Found.{PlaceIs}

-- what is made of the marks of two tables at one key
abbrev pub Making : Type 0
Making = ℕ → ℕ → ℕ

-- the keys of rows
abbrev pub keys : (ℕ → Row) → ℕ → Key
keys f x = (f x).key

-- n rows are a table: they rise and bear marks
pub record IsTable (n : ℕ) (f : ℕ → Row) : Type 0 where
  pub up : RowsRise (keys f) n
  pub some : (i : ℕ) → i < n → 0 < (f i).marks

-- k rows are n rows and m rows combined
pub record Combined (F : Making) (n : ℕ) (f : ℕ → Row) (m : ℕ) (g : ℕ → Row) (k : ℕ) (h : ℕ → Row) : Type 0 where
  pub table : IsTable k h
  pub marks : (key : Key) → marks_at (rows_of k h) key ≡ F (marks_at (rows_of n f) key) (marks_at (rows_of m g) key)

-- row i of the first table has marks in the combination; row j of the second, which the first lacks, has
unfoldable pub first_stays : Making → (ℕ → Row) → ℕ → (ℕ → Row) → ℕ → Bool
first_stays F f m g i = ltb 0 (F (f i).marks (marks_at (rows_of m g) (f i).key))

unfoldable pub second_stays : Making → ℕ → (ℕ → Row) → (ℕ → Row) → ℕ → Bool
second_stays F n f g j = not (has n (keys f) (g j).key) && ltb 0 (F 0 (g j).marks)

-- how many rows the combination has
unfoldable pub rows_kept : Making → ℕ → (ℕ → Row) → ℕ → (ℕ → Row) → ℕ
rows_kept F n f m g = how_many (first_stays F f m g) n + how_many (second_stays F n f g) m

-- ---- a walk over both tables

-- the next key is the next of this table, which is taken, or lower than that
pub data TableStep (n : ℕ) (f : ℕ → Key) (i : ℕ) (key : Key) (next : ℕ) : Type 0 where
  takes : i < n → f i ≡ key → next ≡ i + 1 → TableStep n f i key next
  leaves : (i < n → below_key key (f i) ≡ true) → next ≡ i → TableStep n f i key next

-- the next key of both, after the first i keys of f and the first j of g
pub record Stepped (n : ℕ) (f : ℕ → Key) (m : ℕ) (g : ℕ → Key) (i j : ℕ) (key : Key) (next-i next-j : ℕ) : Type 0 where
  pub first : TableStep n f i key next-i
  pub second : TableStep m g j key next-j
  pub moved : i + j < next-i + next-j

-- the marks that a table gives a step: those of its next row where it is taken, else none
unfoldable pub given : (ℕ → Row) → ℕ → ℕ → ℕ
given f from to = cond (ltb from to) (f from).marks 0

-- the first i rows of one table and the first j of the other are combined into k rows, and the rows to come are higher
pub record Walked (F : Making) (n : ℕ) (f : ℕ → Row) (m : ℕ) (g : ℕ → Row) (i j k : ℕ) (h : ℕ → Row) : Type 0 where
  pub first-in : i ≤ n
  pub second-in : j ≤ m
  pub first-ahead : (y : ℕ) → y < j → i < n → below_key (g y).key (f i).key ≡ true
  pub second-ahead : (x : ℕ) → x < i → j < m → below_key (f x).key (g j).key ≡ true
  pub combined : Combined F i f j g k h
  pub count : k ≡ how_many (first_stays F f m g) i + how_many (second_stays F n f g) j

-- a row is put behind k rows where it has marks
pub data Put (marks : ℕ) (key : Key) (k : ℕ) (h : ℕ → Row) (k' : ℕ) (h' : ℕ → Row) : Type 0 where
  drops : marks ≡ 0 → k' ≡ k → ((u : ℕ) → u < k → h' u ≡ h u) → Put marks key k h k' h'
  stays : 0 < marks → k' ≡ k + 1 → ((u : ℕ) → u < k → h' u ≡ h u) → h' k ≡ record { key = key; marks = marks } → Put marks key k h k' h'

-- where the first i rows of a table stand in the combination, or would stand where they have no marks there: the places that a search for them finds
abbrev pub PlacesIn : (ℕ → Row) → ℕ → (ℕ → ℕ) → ℕ → (ℕ → Row) → Type 0
PlacesIn f i spots k h = (x : ℕ) → x < i → PlaceIs (keys h) k (f x).key (spots x)
