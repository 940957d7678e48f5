-- Where rows start and how long tables are, by the sheet's form. Only here is it known how wide an edge row is.
-- Assumes nothing.
use Prim.Native.Nat.{ℕ, zero, suc, ◌+◌, ◌-◌, ◌<◌, ◌≤◌}
use mathlib.Core.Path.{◌≡◌, sym, ap, subst, ◌∙◌}
use native.Mathlib.Omega.{arith}
use native.Mathlib.Decide.{dec_lt}
use native.Mathlib.Numerals.{add-one}
use Rattle.sheet.specs.declared.Half.{Half}
use Rattle.sheet.specs.declared.Half.TheVariants.{Nodes, Edges}
use Rattle.sheet.specs.declared.Header.{Header}
use Rattle.sheet.specs.Limits.{most_edges, max_edges, edge_words, edge_place, most_edge_words}
use Rattle.sheet.specs.Rows.{count_in, row_words, row_place}
use Rattle.sheet.specs.Accepted.{HeaderFits}

-- no form has more rows, or a longer table, than the most
pub few : (form e : ℕ) → e ≤ max_edges form → (e ≤ most_edges) × (edge_place form e ≤ most_edge_words)
unfolding max_edges edge_place edge_words
few form e l = (l, omega arith)

pub edges_few : (h : Header) (words : ℕ) → HeaderFits h words → h.edges ≤ most_edges
edges_few h words f = (few h.form h.edges f.edges).0

pub rows_few : (half : Half) (h : Header) (words : ℕ) → HeaderFits h words → count_in half h ≤ most_edges
rows_few Nodes h words f = omega (arith, f.nodes)
rows_few Edges h words f = edges_few h words f

module _ (half : Half) (form : ℕ) where
  -- the first row starts where the table does
  pub place-start : row_place half form 0 ≡ 0
  unfolding edge_place edge_words
  place-start = go half
    where
      go : (x : Half) → row_place x form 0 ≡ 0
      go Nodes = omega arith
      go Edges = omega arith

  -- each row starts where the one before it ends
  pub place-next : (j : ℕ) → row_place half form (j + 1) ≡ row_place half form j + row_words half form
  unfolding edge_place edge_words
  place-next j = go half
    where
      go : (x : Half) → row_place x form (j + 1) ≡ row_place x form j + row_words x form
      go Nodes = omega arith
      go Edges = omega arith

  -- a row that comes before the end lies before it
  pub place-before : (j n : ℕ) → j < n → row_place half form j + row_words half form ≤ row_place half form n
  unfolding edge_place edge_words
  place-before j n l = go half
    where
      go : (x : Half) → row_place x form j + row_words x form ≤ row_place x form n
      go Nodes = omega arith
      go Edges = omega arith

  -- more rows are no shorter
  pub place-rises : (j n : ℕ) → j ≤ n → row_place half form j ≤ row_place half form n
  unfolding edge_place edge_words
  place-rises j n l = go half
    where
      go : (x : Half) → row_place x form j ≤ row_place x form n
      go Nodes = omega arith
      go Edges = omega arith

  -- a row has its first three words and its offices
  pub words-low : 4 ≤ row_words half form
  unfolding edge_words
  words-low = go half
    where
      go : (x : Half) → 4 ≤ row_words x form
      go Nodes = omega arith
      go Edges = omega arith

  -- what holds at each word of each row holds at each word
  pub each_word : (P : ℕ → Type 0) (n : ℕ) → ((q c : ℕ) → q < n → c < row_words half form → P (row_place half form q + c)) → (i : ℕ) → i < row_place half form n → P i
  each_word P zero h i l = absurd (omega (arith, place-start, l))
  each_word P (suc n) h i l = go (λ m. each_word P n (λ q c x y. h q c (omega arith) y) i m) (dec_lt i (row_place half form n))
    where
      last : row_place half form (suc n) ≡ row_place half form n + row_words half form
      last = ap (row_place half form) (sym (add-one n)) ∙ place-next n

      go : (i < row_place half form n → P i) → Dec (i < row_place half form n) → P i
      go before (yes m) = before m
      go before (no m) = let e : row_place half form n + (i - row_place half form n) ≡ i = omega arith in subst P e (h n (i - row_place half form n) (omega arith) (omega (arith, last, l)))
