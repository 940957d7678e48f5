-- What a sheet with a row more has: one row more of that half, as many of the other, and at each office what it held and the row.
-- Assumes nothing.
use Prim.Native.Nat.{ℕ, ◌+◌, ◌<◌}
use mathlib.Core.Path.{◌≡◌, refl, sym, ap, ◌∙◌}
use mathlib.Core.Bool.{Bool, true, false, true≢false, not, ◌&&◌, ◌||◌}
use mathlib.Core.List.{List}
use native.Mathlib.Omega.{arith}
use native.Mathlib.Decide.{dec_lt}
use lib.ListN.{length}
use Rattle.tables.specs.Count.{number_of, how_many, has, shared}
use Rattle.tables.specs.Key.{Key, same_key}
use Rattle.tables.specs.Marks.{marked}
use Rattle.tables.specs.Table.{marks_at}
use Rattle.tables.proofs.Counts.{many-all, many-not, many-once, some_at, has-row, has-not, shared-swap}
use Rattle.tables.proofs.Keys.{same-eq, eq-same}
use Rattle.tables.proofs.Marks.{no-mark}
use Rattle.sheet.specs.declared.Cells.{Cells}
use Rattle.sheet.specs.declared.Half.{Half}
use Rattle.sheet.specs.declared.Half.TheVariants.{Nodes, Edges}
use Rattle.sheet.specs.Accepted.{Accepted}
use Rattle.sheet.specs.Named.{row_at, held_at}
use Rattle.sheet.specs.Rows.{header_of, count_in, row_words}
use Rattle.sheet.proofs.Forming.{one_form}
use Rattle.sheet.proofs.Naming.{node-marked, edge-marked}
use Rattle.sheet.proofs.Widths.{place-next}
use Rattle.combine.proofs.Reading.{half-own}
use Rattle.meaning.specs.Added.{table_in, other_half, key_named, held_in, IsAdded}
use Rattle.add.proofs.Placing.{marked_row, row-marked}

-- ---- how many rows

-- two tables of which the second has all keys of the first, and one key more or none
module _ (n : ℕ) (f : ℕ → Key) (own : (i j : ℕ) → i < n → j < n → f i ≡ f j → i ≡ j) (m : ℕ) (g : ℕ → Key) (one : (i j : ℕ) → i < m → j < m → g i ≡ g j → i ≡ j) (all : (x : ℕ) → x < n → has m g (f x) ≡ true) where
  common-rows : how_many (λ y. has n f (g y)) m ≡ n
  unfolding shared
  common-rows = sym (shared-swap m g one n f own) ∙ many-all (λ x. has m g (f x)) n all

  rest : how_many (λ y. not (has n f (g y))) m + n ≡ m
  rest = ap (λ (x : ℕ). how_many (λ y. not (has n f (g y))) m + x) (sym common-rows) ∙ many-not (λ y. has n f (g y)) m

  rows_more : (k : Key) (r : ℕ) → r < m → g r ≡ k → has n f k ≡ false → ((y : ℕ) → y < m → has n f (g y) ≡ false → g y ≡ k) → m ≡ n + 1
  rows_more k r l e free else =
      let a = many-once (λ y. not (has n f (g y))) m (λ x y lx ly p q. one x y lx ly (else x lx (not-true _ p) ∙ sym (else y ly (not-true _ q)))) in
      let b = some_at (λ y. not (has n f (g y))) m r l (ap not (ap (has n f) e ∙ free)) in
      omega (arith, rest, a, ap number_of b)
    where
      not-true : (b : Bool) → not b ≡ true → b ≡ false
      not-true true q = sym q
      not-true false q = refl

  rows_as : ((y : ℕ) → y < m → has n f (g y) ≡ true) → m ≡ n
  rows_as back = let a = many-all (λ y. has n f (g y)) m back in omega (arith, common-rows, a)

module _ (half : Half) (s : List ℕ) (v : Accepted s) where
  has-marked : (k : Key) → 0 < marks_at (table_in half s) k → has (count_in half (header_of s)) (λ x. (row_at half s x).key) k ≡ true
  has-marked k l = let r = marked_row half s k l in has-row _ _ k r.row r.inside r.names

  marked-has : (k : Key) → has (count_in half (header_of s)) (λ x. (row_at half s x).key) k ≡ false → marks_at (table_in half s) k ≡ 0
  marked-has k e = go (dec_lt 0 (marks_at (table_in half s) k))
    where
      go : Dec (0 < marks_at (table_in half s) k) → marks_at (table_in half s) k ≡ 0
      go (yes l) = absurd (true≢false (sym (has-marked k l) ∙ e))
      go (no l) = omega arith

module _ (half : Half) (s : List ℕ) (v : Accepted s) (c : Cells) (some : 0 < c.offices) (free : marks_at (table_in half s) (key_named half s c) ≡ 0) (t : List ℕ) (X : IsAdded half s c t) where
  abbrev key : Key
  key = key_named half s c

  marks-apart : (k : Key) → 0 < marks_at (table_in half s) k → k ≡ key → ⊥
  marks-apart k l e = omega (arith, free, ap (marks_at (table_in half s)) e, l)

  pub one-row-more : count_in half (header_of t) ≡ count_in half (header_of s) + 1
  one-row-more =
      let r = marked_row half t key (omega (arith, X.row)) in
      rows_more (count_in half (header_of s)) (λ x. (row_at half s x).key) (half-own s (header_of s) v half) (count_in half (header_of t)) (λ x. (row_at half t x).key) (half-own t (header_of t) X.accepted half)
      (λ x l. let k = row-marked half s v x l in has-marked half t X.accepted _ (rw (X.others _ (marks-apart _ k)) k)) key r.row r.inside r.names
      (has-not _ _ key (λ x l e. marks-apart _ (row-marked half s v x l) e)) (λ y l e. go y l e (same_key (row_at half t y).key key) refl)
    where
      go : (y : ℕ) → y < count_in half (header_of t) → has (count_in half (header_of s)) (λ x. (row_at half s x).key) (row_at half t y).key ≡ false → (b : Bool) → same_key (row_at half t y).key key ≡ b → (row_at half t y).key ≡ key
      go y l e true q = same-eq (row_at half t y).key key q
      go y l e false q =
          let apart : (row_at half t y).key ≡ key → ⊥ = (λ d. true≢false (sym (eq-same (row_at half t y).key key d) ∙ q)) in
          absurd (omega (arith, row-marked half t X.accepted y l, X.others (row_at half t y).key apart, marked-has half s v (row_at half t y).key e))

  pub no-row-more : count_in (other_half half) (header_of t) ≡ count_in (other_half half) (header_of s)
  no-row-more =
      rows_as (count_in (other_half half) (header_of s)) (λ x. (row_at (other_half half) s x).key) (half-own s (header_of s) v (other_half half)) (count_in (other_half half) (header_of t)) (λ x. (row_at (other_half half) t x).key) (half-own t (header_of t) X.accepted (other_half half))
      (λ x l. has-marked (other_half half) t X.accepted _ (rw (X.rest (row_at (other_half half) s x).key) (row-marked (other_half half) s v x l)))
      (λ y l. has-marked (other_half half) s v _ (rw (sym (X.rest (row_at (other_half half) t y).key)) (row-marked (other_half half) t X.accepted y l)))

  pub row-longer : length t ≡ length s + row_words half (header_of s).form
  row-longer = go half one-row-more no-row-more
    where
      go : (x : Half) → count_in x (header_of t) ≡ count_in x (header_of s) + 1 → count_in (other_half x) (header_of t) ≡ count_in (other_half x) (header_of s) → length t ≡ length s + row_words x (header_of s).form
      go Nodes a b = X.accepted.nodes.header.whole ∙ (rw (one_form t s X.accepted v, a, b) (omega (arith, v.nodes.header.whole)))
      go Edges a b = X.accepted.nodes.header.whole ∙ (rw (one_form t s X.accepted v, a, b, place-next Edges (header_of s).form (header_of s).edges) (omega (arith, v.nodes.header.whole)))

  -- ---- what each office holds

  held-marks-in : (x : Half) (u : List ℕ) → Accepted u → (office : ℕ) (k : Key) → held_in x (held_at u office) k ≡ marked (marks_at (table_in x u) k) office
  held-marks-in Nodes u w office k = node-marked u w office k
  held-marks-in Edges u w office k = edge-marked u w office k

  pub holds_row : (office : ℕ) (k : Key) → held_in half (held_at t office) k ≡ (held_in half (held_at s office) k || (same_key k key && marked c.offices office))
  holds_row office k = rw (held-marks-in half t X.accepted office k, held-marks-in half s v office k) (go (same_key k key) refl)
    where
      or-false : (b : Bool) → b ≡ (b || false)
      or-false true = refl
      or-false false = refl

      go : (b : Bool) → same_key k key ≡ b → marked (marks_at (table_in half t) k) office ≡ (marked (marks_at (table_in half s) k) office || (same_key k key && marked c.offices office))
      go true e = rw (e, same-eq k key e, X.row, free, no-mark office) refl
      go false e =
          let apart : k ≡ key → ⊥ = (λ d. true≢false (sym (eq-same k key d) ∙ e)) in
          rw (e, X.others k apart) (or-false (marked (marks_at (table_in half s) k) office))

  pub holds-rest : (office : ℕ) (k : Key) → held_in (other_half half) (held_at t office) k ≡ held_in (other_half half) (held_at s office) k
  holds-rest office k = held-marks-in (other_half half) t X.accepted office k ∙ (ap (λ (m : ℕ). marked m office) (X.rest k) ∙ sym (held-marks-in (other_half half) s v office k))
