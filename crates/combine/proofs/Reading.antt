-- What a sheet that passed the check has room for, and its rows as tables.
-- Assumes nothing.
use Prim.Native.Nat.{ℕ, zero, suc, ◌+◌, ◌^◌, ◌<◌, ◌≤◌}
use mathlib.Core.Path.{◌≡◌, refl, sym, ap, subst, ◌∙◌}
use mathlib.Core.Bool.{Bool, true, false, true≢false, cond}
use mathlib.Core.List.{List, [], ◌∷◌}
use native.Mathlib.Omega.{arith}
use lib.Dec.{ltb}
use lib.ListN.{length, get_or, set, get_or-eq_default}
use lib.Pow.{pow_pos}
use lib.Seq.{sets, set_out}
use borrow.Author.Tests.{lt-ltb, le-ltb}
use Rattle.tables.specs.Count.{number_of}
use Rattle.tables.specs.Key.{Key, below_key}
use Rattle.tables.proofs.Keys.{Lies, lower, equal, higher, lies, one-row}
use Rattle.tables.specs.Table.{Row, rows_of, marks_at}
use Rattle.tables.proofs.Tables.{marks-low}
use Rattle.sheet.specs.declared.Cells.{Cells}
use Rattle.sheet.specs.declared.Header.{Header}
use Rattle.sheet.specs.declared.formed.Sheet.{Sheet}
use Rattle.sheet.specs.Rows.{header_of, edge_table, node_key_at, count_in, row_place, cells_at}
use Rattle.sheet.specs.Named.{node_row, edge_row, row_at}
use Rattle.sheet.specs.Accepted.{WellFormed, Accepted}
use Rattle.sheet.proofs.Forming.{words_of}
use Rattle.sheet.proofs.Naming.{edges-up}
use Rattle.sheet.specs.declared.Half.{Half}
use Rattle.sheet.specs.declared.Half.TheVariants.{Nodes, Edges}
use Rattle.sheet.specs.Stored.{stored}
use Rattle.combine.specs.Combined.{keys, IsTable, takes, leaves, TableStep, given}
use Rattle.sheet.specs.Limits.{most_edges}
use Rattle.sheet.proofs.Widths.{rows_few}
use Rattle.combine.specs.declared.halves.Halves.{Halves}
use Rattle.combine.specs.declared.meeting.Meeting.{Meeting}
use Rattle.combine.specs.declared.meeting.Meeting.TheVariants.{First, Second, Both}
use Rattle.combine.specs.Meets.{first_count, second_count, first_at, second_at, AreRows, Meets}
use Rattle.combine.specs.Halves.{through, spelled, Moves, noted, stored_at, taken_cells}
use native.Mathlib.Decide.{dec_lt}
use Rattle.combine.proofs.Combining.{given-taken, given-left}

module _ (s : List ℕ) (v : Accepted s) where
  own-table : (half : Half) → IsTable (count_in half (header_of s)) (row_at half s)
  unfolding node_row edge_row
  own-table Nodes = record { up = λ i l. v.nodes.rise i l; some = λ i l. (v.nodes.fit i l).marks.some }
  own-table Edges = record { up = edges-up s v; some = λ j l. (v.edges.fit j l).marks.some }

  own-marks : (half : Half) (i : ℕ) → i < count_in half (header_of s) → (row_at half s i).marks < 2 ^ (header_of s).offices
  unfolding node_row edge_row
  own-marks Nodes i l = (v.nodes.fit i l).marks.high
  own-marks Edges i l = (v.edges.fit i l).marks.high

-- .. under the header that is handed on
module _ (s : List ℕ) (h : Header) (w : WellFormed s (edge_table s) h) where
  pub half-table : (half : Half) → IsTable (count_in half h) (row_at half s)
  half-table half = subst (λ (x : Header). IsTable (count_in half x) (row_at half s)) (sym w.head) (own-table s (words_of s _ h w) half)

  pub half-marks : (half : Half) (i : ℕ) → i < count_in half h → (row_at half s i).marks < 2 ^ h.offices
  half-marks half = subst (λ (x : Header). (i : ℕ) → i < count_in half x → (row_at half s i).marks < 2 ^ x.offices) (sym w.head) (own-marks s (words_of s _ h w) half)

  pub half-own : (half : Half) (i j : ℕ) → i < count_in half h → j < count_in half h → (row_at half s i).key ≡ (row_at half s j).key → i ≡ j
  half-own half = one-row (keys (row_at half s)) (count_in half h) (half-table half).up

  -- at every key
  pub half-low : (half : Half) (key : Key) → marks_at (rows_of (count_in half h) (row_at half s)) key < 2 ^ h.offices
  half-low half key = marks-low _ _ (row_at half s) (half-own half) (pow_pos h.offices) (half-marks half) key

-- a sheet's words, with the edge table that they have
pub sheet-formed : (s : Sheet) → WellFormed s.words.now (edge_table s.words.now) s.header
sheet-formed s = subst (λ (t : List ℕ). WellFormed s.words.now t s.header) s.formed.table s.formed

-- no key is empty
pub half-named : (half : Half) (s : List ℕ) (i : ℕ) → (row_at half s i).key ≡ [] → ⊥
unfolding node_row edge_row
half-named Nodes s i e = let z : ◌≡◌ {A = ℕ} 0 1 = cc in omega arith
half-named Edges s i e = let z : ◌≡◌ {A = ℕ} 0 1 = cc in omega arith

-- the words of a row have its marks
pub words-marks : (half : Half) (s : List ℕ) (i : ℕ) → (cells_at half s i).offices ≡ (row_at half s i).marks
unfolding node_row edge_row
words-marks Nodes s i = refl
words-marks Edges s i = refl

pub given-read : (half : Half) (s : List ℕ) (from to : ℕ) (c : Cells) → c ≡ cells_at half s from → from < to → c.offices ≡ given (row_at half s) from to
given-read half s from to c q l = ap (λ (x : Cells). x.offices) q ∙ words-marks half s from ∙ sym (given-taken (row_at half s) from to l)

-- comparing by what is named
pub nodes-below : (half : Half) (a b : List ℕ) (i j : ℕ) (t : Bool) → half ≡ Nodes → t ≡ below_key (node_key_at a i) (node_key_at b j) → t ≡ below_key (row_at half a i).key (row_at half b j).key
unfolding node_row
nodes-below half a b i j t p q = subst (λ (x : Half). t ≡ below_key (row_at x a i).key (row_at x b j).key) (sym p) q

-- ---- the cases of a step

module _ (n : ℕ) (f : ℕ → Row) (m : ℕ) (g : ℕ → Row) (i j : ℕ) where
  -- the first table's next key is lower, or alone
  pub moves-first : i < n → (j < m → below_key (f i).key (g j).key ≡ true) → Moves n f m g i j (i + 1) j
  moves-first a l = record { key = (f i).key; stepped = record { first = takes a refl refl; second = leaves l refl; moved = omega arith } }

  pub moves-second : j < m → (i < n → below_key (g j).key (f i).key ≡ true) → Moves n f m g i j i (j + 1)
  moves-second a l = record { key = (g j).key; stepped = record { first = leaves l refl; second = takes a refl refl; moved = omega arith } }

  -- neither is lower: they are the same
  pub moves_both : i < n → j < m → below_key (f i).key (g j).key ≡ false → below_key (g j).key (f i).key ≡ false → Moves n f m g i j (i + 1) (j + 1)
  moves_both a b u v =
      record { key = (f i).key; stepped = record { first = takes a refl refl; second = takes b (sym (same (lies (f i).key (g j).key))) refl; moved = omega arith } }
    where
      same : Lies (f i).key (g j).key → (f i).key ≡ (g j).key
      same (lower c s w) = absurd (true≢false (sym c ∙ u))
      same (equal c) = c
      same (higher c s w) = absurd (true≢false (sym c ∙ v))

-- a table moves on by a row that it has, and one of them does
pub moves-inside : (n : ℕ) (f : ℕ → Row) (m : ℕ) (g : ℕ → Row) (i j i' j' : ℕ) → Moves n f m g i j i' j' → (i < i' → i < n) × (j < j' → j < m) × (i' ≤ i → j < m)
moves-inside n f m g i j i' j' M = let S = M.stepped in (inside n (keys f) i _ S.first, inside m (keys g) j _ S.second, alone S.first S.second)
  where
    inside : (n' : ℕ) (f' : ℕ → Key) (o o' : ℕ) → TableStep n' f' o M.key o' → o < o' → o < n'
    inside n' f' o o' (takes a e z) l = a
    inside n' f' o o' (leaves a z) l = absurd (omega arith)

    alone : TableStep n (keys f) i M.key i' → TableStep m (keys g) j M.key j' → i' ≤ i → j < m
    alone s (takes a e z) l = a
    alone (takes a e z) (leaves b q) l = absurd (omega arith)
    alone (leaves a z) (leaves b q) l = absurd (omega (arith, M.stepped.moved))

-- what a sheet gives a step is marks of its offices
pub given-low : (half : Half) (s : List ℕ) (h : Header) → WellFormed s (edge_table s) h → (i next : ℕ) → (i < next → i < count_in half h) → given (row_at half s) i next < 2 ^ h.offices
given-low half s h w i next inside = go (dec_lt i next)
  where
    go : Dec (i < next) → given (row_at half s) i next < 2 ^ h.offices
    go (yes l) = omega (arith, given-taken (row_at half s) i next l, half-marks s h w half i (inside l))
    go (no l) = omega (arith, given-left (row_at half s) i next (omega arith), pow_pos h.offices)

-- .. of two halves
module _ (H : Halves) (i j : ℕ) where
  pub first-next : i < first_count H → (j < second_count H → below_key (first_at H i).key (second_at H j).key ≡ true) → Meets H i j (First i)
  first-next u l = record { rows = u; next = refl; moves = moves-first _ (first_at H) _ (second_at H) i j u l }

  pub second-next : j < second_count H → (i < first_count H → below_key (second_at H j).key (first_at H i).key ≡ true) → Meets H i j (Second j)
  second-next u l = record { rows = u; next = refl; moves = moves-second _ (first_at H) _ (second_at H) i j u l }

  pub both-next : i < first_count H → j < second_count H → below_key (first_at H i).key (second_at H j).key ≡ false → below_key (second_at H j).key (first_at H i).key ≡ false → Meets H i j (Both i j)
  both-next u v x y = record { rows = (u, v); next = (refl, refl); moves = moves_both _ (first_at H) _ (second_at H) i j u v x y }

-- a sheet has few rows
abbrev pub AreFew : Meeting → Type 0
AreFew (First x) = x < most_edges
AreFew (Second y) = y < most_edges
AreFew (Both x y) = (x < most_edges) × (y < most_edges)

pub rows-few : (H : Halves) (step : Meeting) → AreRows H step → AreFew step
rows-few H (First x) r = omega (arith, r, rows_few H.half _ _ H.inputs.first.nodes.header)
rows-few H (Second y) r = omega (arith, r, rows_few H.half _ _ H.inputs.second.nodes.header)
rows-few H (Both x y) r = (omega (arith, r.0, rows_few H.half _ _ H.inputs.first.nodes.header), omega (arith, r.1, rows_few H.half _ _ H.inputs.second.nodes.header))

-- ---- maps and words

inside-any : (l : List ℕ) (i a b : ℕ) → i < length l → get_or l i a ≡ get_or l i b
inside-any [] i a b h = absurd (omega (arith, h))
inside-any (x ∷ l) zero a b h = refl
inside-any (x ∷ l) (suc i) a b h = inside-any l i a b (omega (arith, h))

pub entry-inside : (spots : List ℕ) (x : ℕ) → x < length spots → get_or spots x 0 ≡ through spots x
unfolding through
entry-inside spots x h = inside-any spots x 0 x h

pub entry_past : (spots : List ℕ) (x : ℕ) → length spots ≤ x → x ≡ through spots x
unfolding through
entry_past spots x h = sym (get_or-eq_default spots x h)

pub spelled_is : (spots : List ℕ) (c : Cells) (marks a b : ℕ) → a ≡ through spots c.second → b ≡ through spots c.third → record { first = c.first; second = a; third = b; offices = marks } ≡ spelled spots c marks
unfolding spelled
spelled_is spots c marks a b p q = λ i. record { first = c.first; second = p i; third = q i; offices = marks }

pub note-stored : (spots : List ℕ) (from to place : ℕ) → from < to → set spots from place ≡ noted spots from to place
unfolding noted
note-stored spots from to place h = rw (lt-ltb from to h) refl

pub note-left : (spots : List ℕ) (from to place : ℕ) → to ≤ from → spots ≡ noted spots from to place
unfolding noted
note-left spots from to place h = rw (le-ltb from to h) refl

pub note-past : (spots : List ℕ) (from to place : ℕ) → length spots ≤ from → spots ≡ noted spots from to place
unfolding noted
note-past spots from to place h = go (ltb from to)
  where
    go : (b : Bool) → spots ≡ cond b (set spots from place) spots
    go true = sym (set_out spots from place h)
    go false = refl

pub stored_some : (half : Half) (form : ℕ) (out : List ℕ) (k : ℕ) (c : Cells) → 0 < c.offices → sets out (row_place half form k) (stored half form c) ≡ stored_at half form out k c
unfolding stored_at
stored_some half form out k c h = rw (lt-ltb 0 c.offices h) refl

pub stored-none : (half : Half) (form : ℕ) (out : List ℕ) (k : ℕ) (c : Cells) → c.offices ≤ 0 → out ≡ stored_at half form out k c
unfolding stored_at
stored-none half form out k c h = rw (le-ltb 0 c.offices h) refl

pub taken-marks : (half : Half) (a ma b mb : List ℕ) (i next j marks : ℕ) → (taken_cells half a ma b mb i next j marks).offices ≡ marks
unfolding taken_cells spelled
taken-marks half a ma b mb i next j marks = go (ltb i next)
  where
    go : (x : Bool) → (cond x (spelled ma (cells_at half a i) marks) (spelled mb (cells_at half b j) marks)).offices ≡ marks
    go true = refl
    go false = refl

pub taken-first : (half : Half) (a ma b mb : List ℕ) (i next j marks : ℕ) → i < next → spelled ma (cells_at half a i) marks ≡ taken_cells half a ma b mb i next j marks
unfolding taken_cells
taken-first half a ma b mb i next j marks h = rw (lt-ltb i next h) refl

pub taken-second : (half : Half) (a ma b mb : List ℕ) (i next j marks : ℕ) → next ≤ i → spelled mb (cells_at half b j) marks ≡ taken_cells half a ma b mb i next j marks
unfolding taken_cells
taken-second half a ma b mb i next j marks h = rw (le-ltb i next h) refl

pub one-is : (marks : ℕ) → 0 < marks → (1 ≡ number_of (ltb 0 marks)) × (1 ≤ 1)
one-is marks h = (sym (ap number_of (lt-ltb 0 marks h)), omega arith)

pub no-marks-is : (marks : ℕ) → marks ≤ 0 → (0 ≡ number_of (ltb 0 marks)) × (0 ≤ 1)
no-marks-is marks h = (sym (ap number_of (le-ltb 0 marks h)), omega arith)
