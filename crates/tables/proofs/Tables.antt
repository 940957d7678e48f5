-- The rows of a table and the marks at a key.
-- Assumes nothing.
use Prim.Native.Nat.{ℕ, zero, suc, ◌+◌, ◌<◌}
use mathlib.Core.Path.{◌≡◌, refl, sym, ap, ◌∙◌}
use mathlib.Core.Bool.{Bool, true, false, cond, ◌&&◌, ◌||◌, false≢true}
use native.Mathlib.Omega.{arith}
use native.Mathlib.Decide.{dec_lt}
use native.Mathlib.Nat.{add-zero, zero-add}
use native.Mathlib.Numerals.{add-one}
use Rattle.tables.specs.Key.{Key, same_key, below_key}
use Rattle.tables.specs.Marks.{marked}
use Rattle.tables.specs.Table.{Row, rows_of, marks_at, Rise}
use Rattle.tables.specs.Office.{some_of, holds}
use Rattle.tables.proofs.Keys.{same_refl, same-eq, eq-same, ne_same}

-- row i, below n, has the key k
pub record RowAt (n : ℕ) (f : ℕ → Row) (k : Key) : Type 0 where
  pub row : ℕ
  pub inside : row < n
  pub names : (f row).key ≡ k

-- where no row has the key, its marks are none
pub marks-none : (n : ℕ) (f : ℕ → Row) (k : Key) → ((i : ℕ) → i < n → (f i).key ≡ k → ⊥) → marks_at (rows_of n f) k ≡ 0
unfolding rows_of marks_at
marks-none zero f k h = refl
marks-none (suc n) f k h =
    rw (ne_same (f 0).key k (h 0 (omega arith))) (zero-add (marks_at (rows_of n (λ i. f (suc i))) k) ∙ marks-none n (λ i. f (suc i)) k (λ i l. h (suc i) (omega arith)))

-- where rows have keys of their own, the marks at a row's key are the row's
marks-row : (n : ℕ) (f : ℕ → Row) → ((i j : ℕ) → i < n → j < n → (f i).key ≡ (f j).key → i ≡ j)
    → (i : ℕ) → i < n → marks_at (rows_of n f) (f i).key ≡ (f i).marks
unfolding rows_of marks_at
marks-row zero f own i l = absurd (omega (arith, l))
marks-row (suc n) f own zero l =
    let none = marks-none n (λ i. f (suc i)) (f 0).key (λ i g e. omega (arith, own (suc i) 0 (omega arith) (omega arith) e)) in
    rw (same_refl (f 0).key, none) (add-zero (f 0).marks)
marks-row (suc n) f own (suc i) l =
    let apart : (f 0).key ≡ (f (suc i)).key → ⊥ = λ e. omega (arith, own 0 (suc i) (omega arith) l e) in
    rw (ne_same (f 0).key (f (suc i)).key apart)
    (zero-add (marks_at (rows_of n (λ j. f (suc j))) (f (suc i)).key)
    ∙ marks-row n (λ j. f (suc j)) (λ a b g h e. omega (arith, own (suc a) (suc b) (omega arith) (omega arith) e)) i (omega (arith, l)))

-- and so they are at any key that names the row
pub marks-named : (n : ℕ) (f : ℕ → Row) → ((i j : ℕ) → i < n → j < n → (f i).key ≡ (f j).key → i ≡ j)
    → (k : Key) (i : ℕ) → i < n → (f i).key ≡ k → marks_at (rows_of n f) k ≡ (f i).marks
marks-named n f own k i l e = ap (marks_at (rows_of n f)) (sym e) ∙ marks-row n f own i l

-- a key that has marks has a row
pub row_of : (n : ℕ) (f : ℕ → Row) (k : Key) → 0 < marks_at (rows_of n f) k → RowAt n f k
unfolding rows_of marks_at
row_of zero f k h = absurd (omega (arith, h))
row_of (suc n) f k h = go (same_key (f 0).key k) refl (row_of n (λ i. f (suc i)) k)
  where
    go : (b : Bool) → same_key (f 0).key k ≡ b → (0 < marks_at (rows_of n (λ i. f (suc i))) k → RowAt n (λ i. f (suc i)) k) → RowAt (suc n) f k
    go true e more = record { row = 0; inside = omega arith; names = same-eq (f 0).key k e }
    go false e more =
        let later = more (rw zero-add at (rw e at h)) in
        record { row = suc later.row; inside = omega (arith, later.inside); names = later.names }

-- two tables have the same marks at a key where a row with it has its twin in the other table
pub marks-twin : (n m : ℕ) (f g : ℕ → Row) → ((i j : ℕ) → i < n → j < n → (f i).key ≡ (f j).key → i ≡ j) → ((i j : ℕ) → i < m → j < m → (g i).key ≡ (g j).key → i ≡ j) → (k : Key)
    → ((i : ℕ) → i < n → (f i).key ≡ k → (j : ℕ) × (j < m) × (g j ≡ f i)) → ((j : ℕ) → j < m → (g j).key ≡ k → RowAt n f k) → marks_at (rows_of m g) k ≡ marks_at (rows_of n f) k
marks-twin n m f g own-f own-g k over back = go (dec_lt 0 (marks_at (rows_of n f) k)) (dec_lt 0 (marks_at (rows_of m g) k))
  where
    by : RowAt n f k → marks_at (rows_of m g) k ≡ marks_at (rows_of n f) k
    by r =
        let t = over r.row r.inside r.names in
        marks-named m g own-g k t.0 t.1 (ap (λ (x : Row). x.key) t.2 ∙ r.names) ∙ ap (λ (x : Row). x.marks) t.2 ∙ sym (marks-named n f own-f k r.row r.inside r.names)

    go : Dec (0 < marks_at (rows_of n f) k) → Dec (0 < marks_at (rows_of m g) k) → marks_at (rows_of m g) k ≡ marks_at (rows_of n f) k
    go (yes l) d = by (row_of n f k l)
    go (no l) (yes d) = let r = row_of m g k d in by (back r.row r.inside r.names)
    go (no l) (no d) = omega arith

-- where rows have keys of their own, the marks at a key are a row's or none, so they are below what the rows' are below
pub marks-low : (top n : ℕ) (f : ℕ → Row) → ((i j : ℕ) → i < n → j < n → (f i).key ≡ (f j).key → i ≡ j) → 0 < top → ((i : ℕ) → i < n → (f i).marks < top) → (k : Key) → marks_at (rows_of n f) k < top
marks-low top n f own some low k = go (dec_lt 0 (marks_at (rows_of n f) k))
  where
    go : Dec (0 < marks_at (rows_of n f) k) → marks_at (rows_of n f) k < top
    go (yes h) =
        let at = row_of n f k h in
        omega (arith, marks-named n f own k at.row at.inside at.names, low at.row at.inside)
    go (no h) = omega arith

-- the same rows are the same table ..
pub rows_alike : (k : ℕ) (h h' : ℕ → Row) → ((u : ℕ) → u < k → h' u ≡ h u) → rows_of k h' ≡ rows_of k h
unfolding rows_of
rows_alike zero h h' same = refl
rows_alike (suc k) h h' same = rw (same 0 (omega arith), rows_alike k (λ u. h (suc u)) (λ u. h' (suc u)) (λ u l. same (suc u) (omega arith))) refl

-- .. and tables that are the same have as many rows, and the same ones
pub rows_same : (n m : ℕ) (f g : ℕ → Row) → rows_of n f ≡ rows_of m g → (n ≡ m) × ((i : ℕ) → i < n → f i ≡ g i)
unfolding rows_of
rows_same zero zero f g e = (refl, λ i h. absurd (omega arith))
rows_same zero (suc m) f g e = absurd (let z : ◌≡◌ {A = ℕ} 0 1 = cc in omega arith)
rows_same (suc n) zero f g e = absurd (let z : ◌≡◌ {A = ℕ} 0 1 = cc in omega arith)
rows_same (suc n) (suc m) f g e =
    let head : f 0 ≡ g 0 = cc in
    let tail : rows_of n (λ i. f (suc i)) ≡ rows_of m (λ i. g (suc i)) = cc in
    let more = rows_same n m (λ i. f (suc i)) (λ i. g (suc i)) tail in
    (ap suc more.0, go head more.1)
  where
    go : f 0 ≡ g 0 → ((i : ℕ) → i < n → f (suc i) ≡ g (suc i)) → (i : ℕ) → i < suc n → f i ≡ g i
    go head more zero h = head
    go head more (suc i) h = more i (omega arith)

-- the marks at a key, one row more at the end
marks-suc : (n : ℕ) (f : ℕ → Row) (key : Key) → marks_at (rows_of (suc n) f) key ≡ marks_at (rows_of n f) key + cond (same_key (f n).key key) (f n).marks 0
unfolding rows_of marks_at
marks-suc zero f key = omega arith
marks-suc (suc n) f key = ap (λ (x : ℕ). cond (same_key (f 0).key key) (f 0).marks 0 + x) (marks-suc n (λ i. f (suc i)) key) ∙ omega arith

module _ (n : ℕ) (f : ℕ → Row) (key : Key) where
  marks-next : marks_at (rows_of (n + 1) f) key ≡ marks_at (rows_of n f) key + cond (same_key (f n).key key) (f n).marks 0
  marks-next = rw (add-one n) (marks-suc n f key)

  -- that has the key, and that has another
  pub marks-more : (f n).key ≡ key → marks_at (rows_of (n + 1) f) key ≡ marks_at (rows_of n f) key + (f n).marks
  marks-more e = marks-next ∙ rw (eq-same (f n).key key e) refl

  pub marks-still : ((f n).key ≡ key → ⊥) → marks_at (rows_of (n + 1) f) key ≡ marks_at (rows_of n f) key
  marks-still e = marks-next ∙ rw (ne_same (f n).key key e) (add-zero _)

-- rows that rise, with marks of offices below the top, are a rising table
pub rows-rise : (top : ℕ) (low : Key) (n : ℕ) (f : ℕ → Row) → (0 < n → below_key low (f 0).key ≡ true)
    → ((i : ℕ) → i + 1 < n → below_key (f i).key (f (i + 1)).key ≡ true) → ((i : ℕ) → i < n → (0 < (f i).marks) × ((f i).marks < top)) → Rise top low (rows_of n f)
unfolding rows_of Rise
rows-rise top low zero f start up marks = tt
rows-rise top low (suc n) f start up marks = (
  start (omega arith),
  (marks 0 (omega arith)).0,
  (marks 0 (omega arith)).1,
  rows-rise top (f 0).key n (λ i. f (suc i))
      (λ h. up 0 (omega arith))
      (λ i h. let e : suc i + 1 ≡ suc (i + 1) = omega arith in rw e at (up (suc i) (omega arith)))
      (λ i h. marks (suc i) (omega arith)),
)

-- ---- rows that count, and what an office holds: the marked ones

-- of n rows, one that counts has the key k
pub record Counted (n : ℕ) (key : ℕ → Key) (counts : ℕ → Bool) (k : Key) : Type 0 where
  pub row : ℕ
  pub inside : row < n
  pub names : key row ≡ k
  pub bears : counts row ≡ true

-- row i, below n, has the key k and bears the office's mark
abbrev pub MarkedRow : ℕ → (ℕ → Row) → ℕ → Key → Type 0
MarkedRow n f office k = Counted n (λ i. (f i).key) (λ i. marked (f i).marks office) k

-- some row of a table is one of its rows by number ..
pub some_of_lem : (p : Row → Bool) (n : ℕ) (f : ℕ → Row) → some_of p (rows_of n f) ≡ true → (i : ℕ) × (i < n) × (p (f i) ≡ true)
unfolding rows_of some_of
some_of_lem p zero f e = absurd (false≢true e)
some_of_lem p (suc n) f e = go (p (f 0)) refl e (some_of_lem p n (λ i. f (suc i)))
  where
    go : (b : Bool) → p (f 0) ≡ b → (b || some_of p (rows_of n (λ i. f (suc i)))) ≡ true → (some_of p (rows_of n (λ i. f (suc i))) ≡ true → (i : ℕ) × (i < n) × (p (f (suc i)) ≡ true)) → (i : ℕ) × (i < suc n) × (p (f i) ≡ true)
    go true q d more = (0, omega arith, q)
    go false q d more = let r = more d in (suc r.0, omega (arith, r.1), r.2)

-- .. and each that passes shows that some does
pub of_some : (p : Row → Bool) (n : ℕ) (f : ℕ → Row) (i : ℕ) → i < n → p (f i) ≡ true → some_of p (rows_of n f) ≡ true
unfolding rows_of some_of
of_some p zero f i l e = absurd (omega (arith, l))
of_some p (suc n) f zero l e = rw e
of_some p (suc n) f (suc i) l e = go (p (f 0)) (of_some p n (λ j. f (suc j)) i (omega (arith, l)) e)
  where
    go : (b : Bool) → some_of p (rows_of n (λ j. f (suc j))) ≡ true → (b || some_of p (rows_of n (λ j. f (suc j)))) ≡ true
    go true d = refl
    go false d = d

-- a test of two parts that passes passes both
pub and-true : (a b : Bool) → (a && b) ≡ true → (a ≡ true) × (b ≡ true)
and-true true b e = (refl, e)
and-true false b e = absurd (false≢true e)

module _ (n : ℕ) (f : ℕ → Row) (office : ℕ) where
  pub held-row : (k : Key) → holds office (rows_of n f) k ≡ true → MarkedRow n f office k
  unfolding holds
  held-row k e =
      let r = some_of_lem _ n f e in
      let p = and-true (marked (f r.0).marks office) _ r.2 in
      record { row = r.0; inside = r.1; names = same-eq _ k p.1; bears = p.0 }

  pub row-held : (k : Key) → MarkedRow n f office k → holds office (rows_of n f) k ≡ true
  unfolding holds
  row-held k r = of_some _ n f r.row r.inside (rw r.bears (eq-same _ k r.names))
