-- The row as a sheet of its own, for a row of which nothing is refused.
-- Assumes nothing.
use Prim.Native.Nat.{ℕ, ◌<◌}
use mathlib.Core.Path.{◌≡◌, refl, sym, ap, subst, ◌∙◌}
use mathlib.Core.Bool.{Bool, true, false, true≢false, ◌&&◌, cond}
use mathlib.Core.List.{List}
use native.Mathlib.Omega.{arith}
use lib.Dec.{ltb, eqb}
use borrow.Author.Tests.{ltb-true, ltb-false, eqb-true}
use Rattle.sheet.specs.declared.Cells.{Cells}
use Rattle.sheet.specs.declared.Half.{Half}
use Rattle.sheet.specs.declared.Half.TheVariants.{Nodes, Edges}
use Rattle.sheet.specs.declared.Header.{Header}
use Rattle.sheet.specs.Accepted.{EdgeShaped, EdgeFits, Accepted, WellFormed}
use Rattle.sheet.specs.Kinds.{contained_kind}
use Rattle.sheet.specs.Rows.{header_of, node_at, edge_table, ends_fit, as_node, as_edge}
use Rattle.sheet.specs.Verdict.{edge_fault}
use Rattle.sheet.proofs.Accepting.{node-good, shape-good, fit-good}
use Rattle.sheet.proofs.Forming.{words_of}
use Rattle.sheet.proofs.Refusing.{else-good}
use Rattle.add.specs.Adding.{add_fault}
use Rattle.add.specs.Lone.{lone_node, lone_edge, ended_at, lone_with_ends, IsLone}
use Rattle.add.proofs.Alone.{node-alone, edge-alone}
use Rattle.add.proofs.Showing.{Good, fault-good}

-- ---- a node row

pub node-lone : (half : Half) (s : List ℕ) (h : Header) (c : Cells) (u : List ℕ) → half ≡ Nodes → WellFormed s (edge_table s) h → add_fault half s c ≡ 0 → u ≡ lone_node h c → IsLone half s c u
node-lone half s h c u told w z e =
    let g = fault-good Nodes s c (rw told at z) in
    subst (λ (x : Half). IsLone x s c u) (sym told)
    (subst (λ (x : List ℕ). IsLone Nodes s c x) (sym (e ∙ ap (λ (x : Header). lone_node x c) w.head)) (node-alone s (words_of s _ h w) c (node-good (header_of s) (as_node c) g.row)))

-- ---- an edge row

-- two ends in one row are of one type, and so it is a containment
and-false : (b : Bool) → (b && false) ≡ false
and-false true = refl
and-false false = refl

not-two : (x a b : ℕ) → eqb a b ≡ false → (eqb x a && eqb x b) ≡ false
not-two x a b n = go (eqb x a) refl
  where
    go : (t : Bool) → eqb x a ≡ t → (eqb x a && eqb x b) ≡ false
    go true q = rw q (ap (λ (y : ℕ). eqb y b) (eqb-true x a q) ∙ n)
    go false q = rw q refl

one_type : (kind x : ℕ) → ends_fit kind x x ≡ true → kind ≡ contained_kind
one_type kind x e = go (eqb kind 2) refl
  where
    go : (t : Bool) → eqb kind 2 ≡ t → kind ≡ 2
    go true q = eqb-true kind 2 q
    go false q =
        absurd
        (true≢false
        (sym e ∙ rw (not-two x 1 2 refl, not-two x 2 3 refl, not-two x 3 4 refl, q, and-false (eqb kind 1), and-false (eqb kind 3), and-false (eqb kind 4), and-false (eqb kind 5)) refl))

module _ (s : List ℕ) (h : Header) (w : WellFormed s (edge_table s) h) (c : Cells) (z : add_fault Edges s c ≡ 0) where
  good : Good Edges s c
  good = fault-good Edges s c z

  shaped : EdgeShaped (header_of s) (as_edge c)
  unfolding edge_fault
  shaped = shape-good (header_of s) (as_edge c) (else-good _ _ good.row).0

  fits : EdgeFits (header_of s) (as_edge c) (node_at s c.second) (node_at s c.third)
  unfolding edge_fault
  fits = fit-good (header_of s) (as_edge c) _ _ (else-good _ _ good.row).1

  apart : c.second ≡ c.third → ⊥
  apart e = fits.apart (one_type c.first (node_at s c.second).class (rw (sym e) at fits.ends)) e

  pub ends_there : (c.second < h.nodes) × (c.third < h.nodes)
  ends_there = rw w.head (shaped.from, shaped.to)

  pub edge-lone : (u : List ℕ) → u ≡ lone_with_ends s h c → IsLone Edges s c u
  unfolding lone_with_ends
  edge-lone u e = subst (λ (x : List ℕ). IsLone Edges s c x) (sym (e ∙ ap (λ (x : Header). lone_with_ends s x c) w.head)) (go (ltb c.second c.third) refl)
    where
      acc : Accepted s
      acc = words_of s _ h w

      go : (t : Bool) → ltb c.second c.third ≡ t → IsLone Edges s c (cond t (lone_edge s (header_of s) c.second c.third (ended_at c 0 1)) (lone_edge s (header_of s) c.third c.second (ended_at c 1 0)))
      go true q = edge-alone s acc c shaped fits c.second c.third 0 1 (ltb-true _ _ q) (omega arith) (omega arith) (λ x. omega arith) refl refl good.room
      go false q =
          let l = ltb-false c.second c.third q in
          let d : c.third < c.second = omega (arith, apart) in
          edge-alone s acc c shaped fits c.third c.second 1 0 d (omega arith) (omega arith) (λ x. omega arith) refl refl good.room

-- .. of the half that is told
pub told-ends : (half : Half) (s : List ℕ) (h : Header) (c : Cells) → half ≡ Edges → WellFormed s (edge_table s) h → add_fault half s c ≡ 0 → (c.second < h.nodes) × (c.third < h.nodes)
told-ends half s h c told w z = ends_there s h w c (rw told at z)

pub told-edge : (half : Half) (s : List ℕ) (h : Header) (c : Cells) (u : List ℕ) → half ≡ Edges → WellFormed s (edge_table s) h → add_fault half s c ≡ 0 → u ≡ lone_with_ends s h c → IsLone half s c u
told-edge half s h c u told w z e = subst (λ (x : Half). IsLone x s c u) (sym told) (edge-lone s h w c (rw told at z) u e)
