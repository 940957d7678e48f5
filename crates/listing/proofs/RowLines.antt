-- The lines of a sheet's rows: they are good lines, and an edge row's line names its ends' lines.
-- Assumes nothing.
use Prim.Native.Nat.{ℕ, zero, suc, ◌-◌, ◌<◌, ◌≤◌}
use mathlib.Core.Path.{◌≡◌, refl, sym, ap, ◌∙◌}
use mathlib.Core.Bool.{Bool, true, false, not, ◌&&◌, ◌||◌}
use mathlib.Core.List.{[], ◌∷◌}
use native.Mathlib.Omega.{arith}
use lib.ListN.{get_or}
use borrow.Author.Tests.{lt-ltb, eq-eqb, ne_eqb, eqb-true}
use Rattle.tables.specs.Key.{identity}
use Rattle.tables.proofs.Tables.{and-true}
use Rattle.sheet.specs.declared.Node.{Node}
use Rattle.sheet.specs.Kinds.{category_type, deed_type, contained_kind}
use Rattle.sheet.specs.Refusals.{◌is◌, ◌below◌}
use Rattle.sheet.specs.Rows.{node_key, ends_fit}
use Rattle.lines.specs.declared.Line.{Line}
use Rattle.lines.specs.Naming.{kind_named, node_line, from_line, to_line, line_key}
use Rattle.lines.specs.Nine.{nine}
use Rattle.lines.specs.Numerals.{too_high}
use Rattle.lines.proofs.Back.{good_by, GoodLine}
use Rattle.listing.specs.Printed.{line_of_node, line_of_edge}

-- a node row of an accepted sheet, its numbers being words
pub record GoodNode (r : Node) : Type 0 where
  pub class_low : 1 ≤ r.class
  pub class-high : r.class ≤ 4
  pub number : r.number ≡ 0 → ⊥
  pub word : r.number < too_high
  pub variant : (r.class ≡ deed_type → ⊥) → r.variant ≡ 0
  pub variant-word : r.variant < too_high

-- ---- numbers that serve

number-serves : (n : ℕ) (rest : Bool) → (n ≡ 0 → ⊥) → n < too_high → rest ≡ true → (not (n is 0) && (n below too_high && rest)) ≡ true
number-serves n rest z h e = rw (ne_eqb n 0 z, lt-ltb n too_high h, e)

variant-serves : (v : ℕ) (rest : Bool) → v < too_high → rest ≡ true → (v below too_high && rest) ≡ true
variant-serves v rest h e = rw (lt-ltb v too_high h, e)

none-serves : (v : ℕ) (rest : Bool) → v ≡ 0 → rest ≡ true → (v is 0 && rest) ≡ true
none-serves v rest z e = rw (eq-eqb v 0 z, e)

-- ---- the line of a node row

node-numbers : (c n v : ℕ) → 1 ≤ c → c ≤ 4 → (n ≡ 0 → ⊥) → n < too_high → ((c ≡ 3 → ⊥) → v ≡ 0) → v < too_high → good_by (get_or nine (c - 1) []) (n ∷ v ∷ 0 ∷ []) ≡ true
node-numbers zero n v l h z w x y = absurd (omega (arith, l))
node-numbers (suc zero) n v l h z w x y = number-serves n _ z w (none-serves v true (x (λ e. omega (arith, e))) refl)
node-numbers (suc (suc zero)) n v l h z w x y = number-serves n _ z w (none-serves v true (x (λ e. omega (arith, e))) refl)
node-numbers (suc (suc (suc zero))) n v l h z w x y = number-serves n _ z w (variant-serves v true y refl)
node-numbers (suc (suc (suc (suc zero)))) n v l h z w x y = number-serves n _ z w (none-serves v true (x (λ e. omega (arith, e))) refl)
node-numbers (suc (suc (suc (suc (suc c))))) n v l h z w x y = absurd (omega (arith, h))

pub node-line-good : (r : Node) → GoodNode r → GoodLine (line_of_node r)
node-line-good r g =
    record {
      fault = refl;
      form-low = g.class_low;
      form-high = omega (arith, g.class-high);
      numbers = node-numbers r.class r.number r.variant g.class_low g.class-high g.number g.word g.variant g.variant-word;
    }

-- ---- the line of an edge row

-- the types that a kind's ends have
its-ends : (a b x y : ℕ) → (a is x && b is y) ≡ true → (a ≡ x) × (b ≡ y)
its-ends a b x y e = let p = and-true (a is x) (b is y) e in (eqb-true a x p.0, eqb-true b y p.1)

two_ends : (a b x y : ℕ) → ((a is x && b is y) || false) ≡ true → (a ≡ x) × (b ≡ y)
two_ends a b x y e = its-ends a b x y (sym (or-none (a is x && b is y)) ∙ e)
  where
    or-none : (t : Bool) → (t || false) ≡ t
    or-none true = refl
    or-none false = refl

-- a node's line by its type and variant
as-node : (r : Node) (c v : ℕ) → r.class ≡ c → r.variant ≡ v → node_line c r.number v ≡ line_of_node r
as-node r c v p q = λ i. node_line (sym p i) r.number (sym q i)

-- it is a good line, and names its ends' lines
pub record EdgeLine (kind : ℕ) (a b : Node) : Type 0 where
  pub good : GoodLine (line_of_edge kind a b)
  pub from : from_line (line_of_edge kind a b) ≡ line_of_node a
  pub to : to_line (line_of_edge kind a b) ≡ line_of_node b

-- a node that is no deed
plain-node : (r : Node) → GoodNode r → (c : ℕ) → r.class ≡ c → (c ≡ 3 → ⊥) → r.variant ≡ 0
plain-node r x c e h = x.variant (λ q. h (sym e ∙ q))

module _ (a b : Node) (f : GoodNode a) (g : GoodNode b) where
  -- a line that ends with a category: number, number
  ends-in-category : b.class ≡ 2 → (not (a.number is 0) && (a.number below too_high && (not (b.number is 0) && (b.number below too_high && (b.variant is 0 && true))))) ≡ true
  ends-in-category q = number-serves a.number _ f.number f.word (number-serves b.number _ g.number g.word (none-serves b.variant true (plain-node b g 2 q (λ z. omega (arith, z))) refl))

  -- with a deed: number, number, variant
  ends-in-deed : (not (a.number is 0) && (a.number below too_high && (not (b.number is 0) && (b.number below too_high && (b.variant below too_high && true))))) ≡ true
  ends-in-deed = number-serves a.number _ f.number f.word (number-serves b.number _ g.number g.word (variant-serves b.variant true g.variant-word refl))

  -- with a folio: number, variant, number
  ends-in-folio : (not (a.number is 0) && (a.number below too_high && (a.variant below too_high && (not (b.number is 0) && (b.number below too_high && true))))) ≡ true
  ends-in-folio = number-serves a.number _ f.number f.word (variant-serves a.variant _ f.variant-word (number-serves b.number true g.number g.word refl))

  pub edge-line-of : (kind : ℕ) → 1 ≤ kind → kind ≤ 5 → ends_fit kind a.class b.class ≡ true → EdgeLine kind a b
  unfolding line_of_edge from_line to_line
  edge-line-of zero l h e = absurd (omega (arith, l))
  edge-line-of (suc zero) l h e =
      let x = two_ends a.class b.class 1 2 e in
      record {
        good = record { fault = refl; form-low = omega arith; form-high = omega arith; numbers = ends-in-category x.1 };
        from = as-node a 1 0 x.0 (plain-node a f 1 x.0 (λ z. omega (arith, z)));
        to = as-node b 2 0 x.1 (plain-node b g 2 x.1 (λ z. omega (arith, z)));
      }
  edge-line-of (suc (suc zero)) l h e =
      let x = two_ends a.class b.class 2 2 e in
      record {
        good = record { fault = refl; form-low = omega arith; form-high = omega arith; numbers = ends-in-category x.1 };
        from = as-node a 2 0 x.0 (plain-node a f 2 x.0 (λ z. omega (arith, z)));
        to = as-node b 2 0 x.1 (plain-node b g 2 x.1 (λ z. omega (arith, z)));
      }
  edge-line-of (suc (suc (suc zero))) l h e =
      let x = two_ends a.class b.class 2 3 e in
      record {
        good = record { fault = refl; form-low = omega arith; form-high = omega arith; numbers = ends-in-deed };
        from = as-node a 2 0 x.0 (plain-node a f 2 x.0 (λ z. omega (arith, z)));
        to = as-node b 3 b.variant x.1 refl;
      }
  edge-line-of (suc (suc (suc (suc zero)))) l h e =
      let x = two_ends a.class b.class 2 3 e in
      record {
        good = record { fault = refl; form-low = omega arith; form-high = omega arith; numbers = ends-in-deed };
        from = as-node a 2 0 x.0 (plain-node a f 2 x.0 (λ z. omega (arith, z)));
        to = as-node b 3 b.variant x.1 refl;
      }
  edge-line-of (suc (suc (suc (suc (suc zero))))) l h e =
      let x = its-ends a.class b.class 3 4 e in
      record {
        good = record { fault = refl; form-low = omega arith; form-high = omega arith; numbers = ends-in-folio };
        from = as-node a 3 a.variant x.0 refl;
        to = as-node b 4 0 x.1 (plain-node b g 4 x.1 (λ z. omega (arith, z)));
      }
  edge-line-of (suc (suc (suc (suc (suc (suc k)))))) l h e = absurd (omega (arith, h))

-- ---- what lines name

-- two lines of the same key are the same line
pub one_line : (l m : Line) → l.fault ≡ m.fault → line_key l ≡ line_key m → l ≡ m
one_line l m f e =
    let a : l.form ≡ m.form = cc in
    let b : l.first ≡ m.first = cc in
    let c : l.second ≡ m.second = cc in
    let d : l.third ≡ m.third = cc in
    λ i. record { fault = f i; form = a i; first = b i; second = c i; third = d i }

-- a node's line has its identity
pub same-identity : (a b : Node) → line_key (line_of_node a) ≡ line_key (line_of_node b) → node_key a ≡ node_key b
same-identity a b e =
    let p : a.class ≡ b.class = cc in
    let q : a.number ≡ b.number = cc in
    let r : a.variant ≡ b.variant = cc in
    λ i. identity (p i) (q i) (r i)

-- a containment between equal numbers is between one node's lines
pub one_end : (l : Line) → kind_named l ≡ contained_kind → l.first ≡ l.second → from_line l ≡ to_line l
unfolding from_line to_line
one_end l k e = rw k (ap (λ (x : ℕ). node_line category_type x 0) e)
