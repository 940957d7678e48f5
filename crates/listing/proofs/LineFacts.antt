-- What a good line is good for: the row that it makes fits, and lines that rise make rows that rise.
-- Assumes nothing.
use Prim.Native.Nat.{ℕ, zero, suc, ◌-◌, ◌<◌, ◌≤◌}
use mathlib.Core.Path.{◌≡◌, refl, sym, ap₂, ◌∙◌}
use mathlib.Core.Bool.{Bool, true, false, not, ◌&&◌, ◌||◌}
use mathlib.Core.List.{[], ◌∷◌, ◌++◌}
use native.Mathlib.Omega.{arith}
use lib.Dec.{eqb, ltb}
use lib.ListN.{get_or}
use borrow.Author.Tests.{eqb-true, eqb-false, ltb-true, ltb-false, le-ltb, lt-ltb, eq-eqb, not-true}
use Rattle.tables.specs.Key.{below_key, identity}
use Rattle.tables.proofs.Keys.{Ahead, first, rest, ahead, behind}
use Rattle.tables.proofs.Tables.{and-true}
use Rattle.sheet.specs.Kinds.{contained_kind}
use Rattle.sheet.specs.Rows.{ends_fit}
use Rattle.lines.specs.declared.Line.{Line}
use Rattle.lines.specs.Naming.{is_node_line, identity_named, kind_named, from_line, to_line, relation_named, within_itself, line_key}
use Rattle.lines.specs.Nine.{nine}
use Rattle.lines.proofs.Back.{good_by, GoodLine}
use Rattle.listing.specs.Laying.{first_edge}

-- ---- node lines

-- a number that may not be 0
not-zero : (n : ℕ) → (false || not (eqb n 0)) ≡ true → n ≡ 0 → ⊥
not-zero n e = eqb-false n 0 (not-true _ e)

-- its number, its variant, and nothing behind them
pub record NodeNumbers (form number variant behind : ℕ) : Type 0 where
  pub number-good : number ≡ 0 → ⊥
  pub variant-good : (form ≡ 3 → ⊥) → variant ≡ 0
  pub nothing : behind ≡ 0

plain-node : (a b c : ℕ) (f : ℕ) → ((false || not (eqb a 0)) && (ltb a 4294967296 && (eqb b 0 && (eqb c 0 && true)))) ≡ true → NodeNumbers f a b c
plain-node a b c f e =
    let x = and-true (false || not (eqb a 0)) _ e in
    let y = and-true (ltb a 4294967296) _ x.1 in
    let z = and-true (eqb b 0) _ y.1 in
    let w = and-true (eqb c 0) _ z.1 in
    record { number-good = not-zero a x.0; variant-good = λ n. eqb-true b 0 z.0; nothing = eqb-true c 0 w.0 }

node-numbers : (f a b c : ℕ) → 1 ≤ f → f < 5 → good_by (get_or nine (f - 1) []) (a ∷ b ∷ c ∷ []) ≡ true → NodeNumbers f a b c
node-numbers zero a b c l h e = absurd (omega arith)
node-numbers (suc zero) a b c l h e = plain-node a b c 1 e
node-numbers (suc (suc zero)) a b c l h e = plain-node a b c 2 e
node-numbers (suc (suc (suc zero))) a b c l h e =
    let x = and-true (false || not (eqb a 0)) _ e in
    let y = and-true (ltb a 4294967296) _ x.1 in
    let z = and-true true _ y.1 in
    let w = and-true (ltb b 4294967296) _ z.1 in
    let v = and-true (eqb c 0) _ w.1 in
    record { number-good = not-zero a x.0; variant-good = λ n. absurd (n refl); nothing = eqb-true c 0 v.0 }
node-numbers (suc (suc (suc (suc zero)))) a b c l h e = plain-node a b c 4 e
node-numbers (suc (suc (suc (suc (suc f))))) a b c l h e = absurd (omega arith)

module _ (l : Line) (g : GoodLine l) where
  pub node-line-numbers : is_node_line l ≡ true → NodeNumbers l.form l.first l.second l.third
  node-line-numbers h = node-numbers l.form l.first l.second l.third g.form-low (ltb-true _ _ h) g.numbers

-- node lines that rise have identities that rise
pub nodes-rising : (l m : Line) → l.third ≡ 0 → m.third ≡ 0 → below_key (line_key l) (line_key m) ≡ true → below_key (identity_named l) (identity_named m) ≡ true
nodes-rising l m x y e = rw (x, y) at e

-- ---- edge lines

-- the same with its words at hand
abbrev edge_line4 : ℕ → ℕ → ℕ → ℕ → Line
edge_line4 f a b c = record { fault = 0; form = f; first = a; second = b; third = c }

-- two numbers, and nothing behind them
two-numbers : (a b c : ℕ) → ((false || not (eqb a 0)) && (ltb a 4294967296 && ((false || not (eqb b 0)) && (ltb b 4294967296 && (eqb c 0 && true))))) ≡ true → c ≡ 0
two-numbers a b c e =
    let x = and-true (false || not (eqb a 0)) _ e in
    let y = and-true (ltb a 4294967296) _ x.1 in
    let z = and-true (false || not (eqb b 0)) _ y.1 in
    let w = and-true (ltb b 4294967296) _ z.1 in
    eqb-true c 0 (and-true (eqb c 0) _ w.1).0

-- lines of one kind that rise relate what rises
same_kind : (f a b c a' b' c' : ℕ) → 5 ≤ f → f ≤ 9 → good_by (get_or nine (f - 1) []) (a ∷ b ∷ c ∷ []) ≡ true → good_by (get_or nine (f - 1) []) (a' ∷ b' ∷ c' ∷ []) ≡ true
    → below_key (f ∷ a ∷ b ∷ c ∷ []) (f ∷ a' ∷ b' ∷ c' ∷ []) ≡ true → below_key (relation_named (edge_line4 f a b c)) (relation_named (edge_line4 f a' b' c')) ≡ true
unfolding from_line to_line
same_kind zero a b c a' b' c' l h g g' e = absurd (omega arith)
same_kind (suc zero) a b c a' b' c' l h g g' e = absurd (omega arith)
same_kind (suc (suc zero)) a b c a' b' c' l h g g' e = absurd (omega arith)
same_kind (suc (suc (suc zero))) a b c a' b' c' l h g g' e = absurd (omega arith)
same_kind (suc (suc (suc (suc zero)))) a b c a' b' c' l h g g' e = absurd (omega arith)
same_kind (suc (suc (suc (suc (suc zero))))) a b c a' b' c' l h g g' e = rw (two-numbers a b c g, two-numbers a' b' c' g') at e
same_kind (suc (suc (suc (suc (suc (suc zero)))))) a b c a' b' c' l h g g' e = rw (two-numbers a b c g, two-numbers a' b' c' g') at e
same_kind (suc (suc (suc (suc (suc (suc (suc zero))))))) a b c a' b' c' l h g g' e = e
same_kind (suc (suc (suc (suc (suc (suc (suc (suc zero)))))))) a b c a' b' c' l h g g' e = e
same_kind (suc (suc (suc (suc (suc (suc (suc (suc (suc zero))))))))) a b c a' b' c' l h g g' e = e
same_kind (suc (suc (suc (suc (suc (suc (suc (suc (suc (suc f)))))))))) a b c a' b' c' l h g g' e = absurd (omega arith)

module _ (l m : Line) (g : GoodLine l) (d : GoodLine m) (low : is_node_line l ≡ false) (high : is_node_line m ≡ false) where
  -- edge lines that rise name relations that rise
  pub edges-rising : below_key (line_key l) (line_key m) ≡ true → below_key (relation_named l) (relation_named m) ≡ true
  edges-rising e = go (ahead _ _ _ _ e)
    where
      go : Ahead l.form m.form (l.first ∷ l.second ∷ l.third ∷ []) (m.first ∷ m.second ∷ m.third ∷ []) → below_key (relation_named l) (relation_named m) ≡ true
      go (first h) = let a = ltb-false l.form 5 low in let b : kind_named l < kind_named m = omega arith in behind (kind_named l) (kind_named m) (identity_named (from_line l) ++ identity_named (to_line l)) (identity_named (from_line m) ++ identity_named (to_line m)) (first b)
      go (rest q h) =
          let f = l.form in
          let its : l ≡ edge_line4 f l.first l.second l.third = λ i. record { fault = g.fault i; form = f; first = l.first; second = l.second; third = l.third } in
          let one : m ≡ edge_line4 f m.first m.second m.third = λ i. record { fault = d.fault i; form = sym q i; first = m.first; second = m.second; third = m.third } in
          ap₂ (λ (x y : Line). below_key (relation_named x) (relation_named y)) its one
          ∙ same_kind f l.first l.second l.third m.first m.second m.third (ltb-false f 5 low) g.form-high g.numbers (rw q d.numbers) (behind f f (l.first ∷ l.second ∷ l.third ∷ []) (m.first ∷ m.second ∷ m.third ∷ []) (rest refl h))

-- ---- the ends of an edge line

ends_of : (f a b c : ℕ) → 5 ≤ f → f ≤ 9 → (ends_fit (f - 4) (from_line (edge_line4 f a b c)).form (to_line (edge_line4 f a b c)).form ≡ true) × ((from_line (edge_line4 f a b c)).form < 5) × ((to_line (edge_line4 f a b c)).form < 5)
unfolding from_line to_line
ends_of zero a b c l h = absurd (omega arith)
ends_of (suc zero) a b c l h = absurd (omega arith)
ends_of (suc (suc zero)) a b c l h = absurd (omega arith)
ends_of (suc (suc (suc zero))) a b c l h = absurd (omega arith)
ends_of (suc (suc (suc (suc zero)))) a b c l h = absurd (omega arith)
ends_of (suc (suc (suc (suc (suc zero))))) a b c l h = (refl, omega arith, omega arith)
ends_of (suc (suc (suc (suc (suc (suc zero)))))) a b c l h = (refl, omega arith, omega arith)
ends_of (suc (suc (suc (suc (suc (suc (suc zero))))))) a b c l h = (refl, omega arith, omega arith)
ends_of (suc (suc (suc (suc (suc (suc (suc (suc zero)))))))) a b c l h = (refl, omega arith, omega arith)
ends_of (suc (suc (suc (suc (suc (suc (suc (suc (suc zero))))))))) a b c l h = (refl, omega arith, omega arith)
ends_of (suc (suc (suc (suc (suc (suc (suc (suc (suc (suc f)))))))))) a b c l h = absurd (omega arith)

module _ (l : Line) (g : GoodLine l) (edge : is_node_line l ≡ false) where
  pub kind-range : (1 ≤ kind_named l) × (kind_named l ≤ 5)
  kind-range = let h = ltb-false l.form 5 edge in (omega arith, omega (arith, g.form-high))

  pub ends-fit : ends_fit (kind_named l) (from_line l).form (to_line l).form ≡ true
  unfolding from_line to_line
  ends-fit = (ends_of l.form l.first l.second l.third (ltb-false _ _ edge) g.form-high).0

  pub from-node : is_node_line (from_line l) ≡ true
  unfolding from_line
  from-node = lt-ltb _ _ (ends_of l.form l.first l.second l.third (ltb-false _ _ edge) g.form-high).1

  pub to-node : is_node_line (to_line l) ≡ true
  unfolding to_line
  to-node = lt-ltb _ _ (ends_of l.form l.first l.second l.third (ltb-false _ _ edge) g.form-high).2

-- a containment whose ends are one identity is one in itself
pub one-end-itself : (l : Line) → kind_named l ≡ contained_kind → identity_named (from_line l) ≡ identity_named (to_line l) → within_itself l ≡ true
unfolding from_line to_line
one-end-itself l k e =
    let f : identity_named (from_line l) ≡ identity 2 l.first 0 = rw k refl in
    let t : identity_named (to_line l) ≡ identity 2 l.second 0 = rw k refl in
    let q : l.first ≡ l.second = cc (f, t, e) in
    rw (k, eq-eqb l.first l.second q) refl

-- ---- where the edge lines start

zeros-lowest : (a b c : ℕ) → below_key (a ∷ b ∷ c ∷ []) (0 ∷ 0 ∷ 0 ∷ []) ≡ false
zeros-lowest a b c = rw (le-ltb a 0 (omega arith), le-ltb b 0 (omega arith), le-ltb c 0 (omega arith)) (none (eqb a 0) (eqb b 0) (eqb c 0))
  where
    none : (x y z : Bool) → (false || (x && (false || (y && (false || (z && false)))))) ≡ false
    none false y z = refl
    none true false z = refl
    none true true false = refl
    none true true true = refl

pub before-edges : (l : Line) → below_key (line_key l) first_edge ≡ is_node_line l
before-edges l = rw (zeros-lowest l.first l.second l.third) (go (ltb l.form 5) (eqb l.form 5))
  where
    go : (x y : Bool) → (x || (y && false)) ≡ x
    go true y = refl
    go false false = refl
    go false true = refl
