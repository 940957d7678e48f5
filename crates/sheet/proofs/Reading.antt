-- What the functions read of a sheet that passed the check: where its rows lie, and how they compare by what they name.
-- Assumes nothing.
use Prim.Native.Nat.{ℕ, ◌+◌, ◌<◌, ◌≤◌}
use mathlib.Core.Path.{◌≡◌, refl, sym, ap, subst, ◌∙◌}
use mathlib.Core.Bool.{Bool, ◌&&◌, ◌||◌}
use mathlib.Core.List.{List}
use native.Mathlib.Omega.{arith}
use lib.Dec.{ltb, eqb}
use lib.ListN.{length}
use Rattle.tables.specs.Key.{below_key}
use Rattle.sheet.specs.declared.Cells.{Cells}
use Rattle.sheet.specs.declared.Edge.{Edge}
use Rattle.sheet.specs.declared.Half.{Half}
use Rattle.sheet.specs.declared.Half.TheVariants.{Nodes, Edges}
use Rattle.sheet.specs.declared.Header.{Header}
use Rattle.sheet.specs.Limits.{node_words, edges_from}
use Rattle.sheet.specs.Rows.{header_of, edge_at, edge_of, edge_table, count_in, cells_at, row_key}
use Rattle.sheet.specs.Named.{edge_row}
use Rattle.sheet.specs.Accepted.{HalfFormed, NodesFormed, WellFormed}

module _ (s t : List ℕ) (h : Header) (w : WellFormed s t h) where
  -- a row of the edge table by the header that is handed on, and by the words' own
  pub row_under : (j : ℕ) → edge_at h t j ≡ edge_at (header_of s) t j
  row_under j = ap (λ (x : Header). edge_at x t j) w.head

  pub node-room : (i : ℕ) → i < h.nodes → edges_from i + node_words ≤ length s
  node-room i l = omega (arith, w.nodes.header.whole)

module _ (s : List ℕ) (h : Header) (w : WellFormed s (edge_table s) h) where
  -- the ends of an edge row are node rows
  pub from_in : (j : ℕ) (e : Edge) → j < h.edges → e ≡ edge_of s j → e.from < h.nodes
  from_in j e l q = omega (arith, (w.edges.shaped j l).from, ap (λ (x : Edge). x.from) (row_under s (edge_table s) h w j ∙ sym q))

  pub to_in : (j : ℕ) (e : Edge) → j < h.edges → e ≡ edge_of s j → e.to < h.nodes
  to_in j e l q = omega (arith, (w.edges.shaped j l).to, ap (λ (x : Edge). x.to) (row_under s (edge_table s) h w j ∙ sym q))

  pub from-room : (j : ℕ) (e : Edge) → j < h.edges → e ≡ edge_of s j → edges_from e.from + node_words ≤ length s
  from-room j e l q = node-room s (edge_table s) h w e.from (from_in j e l q)

  pub to_room : (j : ℕ) (e : Edge) → j < h.edges → e ≡ edge_of s j → edges_from e.to + node_words ≤ length s
  to_room j e l q = node-room s (edge_table s) h w e.to (to_in j e l q)

  -- a row of a half that is told
  pub row_in : (half told : Half) (i : ℕ) → half ≡ told → i < count_in half h → i < count_in told h
  row_in half told i e l = subst (λ (x : Half). i < count_in x h) e l

  -- either half of a sheet that passed the check
  pub half-formed : (half : Half) → HalfFormed half s h
  half-formed Nodes = w.nodes
  half-formed Edges = w

-- a half that is told
pub half-told : (s : List ℕ) (h : Header) (half told : Half) (i : ℕ) → half ≡ told → HalfFormed half s h → i < count_in half h → HalfFormed told s h × (i < count_in told h)
half-told s h half told i e w l = subst (λ (x : Half). HalfFormed x s h × (i < count_in x h)) e (w, l)

pub node-row-room : (s : List ℕ) (h : Header) (i : ℕ) → NodesFormed s h → i < h.nodes → edges_from i + node_words ≤ length s
node-row-room s h i w l = omega (arith, w.header.whole)

-- a row's cells
pub cells_told : (half told : Half) (s : List ℕ) (i : ℕ) (c : Cells) → half ≡ told → c ≡ cells_at told s i → c ≡ cells_at half s i
cells_told half told s i c p q = q ∙ ap (λ (x : Half). cells_at x s i) (sym p)

-- comparing by what is named
pub named-below : (a b : List ℕ) (i j : ℕ) (e d : Edge) (x y v w : Cells) (to from : Bool) → e ≡ edge_of a i → d ≡ edge_of b j
    → x ≡ cells_at Nodes a e.to → y ≡ cells_at Nodes b d.to → v ≡ cells_at Nodes a e.from → w ≡ cells_at Nodes b d.from → to ≡ below_key (row_key x) (row_key y)
    → from ≡ (ltb v.first w.first || (eqb v.first w.first && (ltb v.second w.second || (eqb v.second w.second && (ltb v.third w.third || (eqb v.third w.third && to))))))
    → (ltb e.kind d.kind || (eqb e.kind d.kind && from)) ≡ below_key (edge_row a (edge_table a) i).key (edge_row b (edge_table b) j).key
unfolding edge_row
named-below a b i j e d x y v w to from p q r s t u k l =
    ap (λ (z : Bool). ltb e.kind d.kind || (eqb e.kind d.kind && z)) l ∙ rw (k, r, s, t, u, p, q) refl
