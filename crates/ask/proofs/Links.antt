-- The bridge between the walk's rows and the meaning's identities: each arc of a right's walk is a relation that the office sees, and each relation an arc.
-- Assumes nothing.
use Prim.Native.Nat.{ℕ, zero, suc, ◌<◌, ◌≤◌}
use native.Mathlib.Omega.{arith}
use mathlib.Core.Path.{◌≡◌, refl, sym, ap, subst, ◌∙◌}
use mathlib.Core.Bool.{Bool, true, false, not, ◌&&◌, ◌||◌, cond}
use mathlib.Core.List.{List}
use lib.Dec.{eqb}
use borrow.Author.Tests.{eqb-true, eq-eqb, ne_eqb}
use Rattle.tables.specs.Key.{Key, identity, relation}
use Rattle.tables.specs.Office.{View}
use Rattle.tables.proofs.Keys.{one-row}
use Rattle.sheet.specs.Kinds.{category_type, deed_type, member_kind, contained_kind, applies_kind}
use Rattle.sheet.specs.declared.Edge.{Edge}
use Rattle.sheet.specs.declared.Seat.{Seat}
use Rattle.sheet.specs.Rows.{header_of, node_at, edge_of, edge_table, node_key_at, ends_fit}
use Rattle.sheet.specs.Accepted.{Accepted}
use Rattle.sheet.specs.Named.{edge_row}
use Rattle.sheet.specs.Seats.{counts_at, seen_from}
use Rattle.sheet.proofs.Naming.{edge-seen, seen-edge}
use Rattle.paths.proofs.Tests.{and_left, and_right, both, or_left, or_right}
use Rattle.meaning.specs.Paths.{Side, grant, ban, right_kind, person, category, deed, folio, member, contained, right, applies, step}
use Rattle.walk.specs.declared.Walk.{Walk}
use Rattle.walk.specs.Arcs.{takes, turned, tail_of, head_of, arc_at, Steps, walk_of}

-- the walk of a side's paths for a deed from a seat
abbrev pub walk_for : Seat → Side → ℕ → Walk
walk_for seat side d = walk_of seat (right_kind side) d

-- a kind is one of five
pub data Kind (k : ℕ) : Type 0 where
  one : k ≡ 1 → Kind k
  two : k ≡ 2 → Kind k
  three : k ≡ 3 → Kind k
  four : k ≡ 4 → Kind k
  five : k ≡ 5 → Kind k

pub kind-of : (k : ℕ) → 1 ≤ k → k ≤ 5 → Kind k
kind-of zero l h = absurd (omega (arith, l))
kind-of (suc zero) l h = one refl
kind-of (suc (suc zero)) l h = two refl
kind-of (suc (suc (suc zero))) l h = three refl
kind-of (suc (suc (suc (suc zero)))) l h = four refl
kind-of (suc (suc (suc (suc (suc zero))))) l h = five refl
kind-of (suc (suc (suc (suc (suc (suc k)))))) l h = absurd (omega (arith, h))

-- the types that a kind's ends have
pub ends-are : (kind a b x y : ℕ) → ends_fit kind a b ≡ true → ends_fit kind a b ≡ ((eqb a x && eqb b y) || false) → (a ≡ x) × (b ≡ y)
ends-are kind a b x y e q =
    let r : ((eqb a x && eqb b y) || false) ≡ true = sym q ∙ e in
    let p : (eqb a x && eqb b y) ≡ true = left (eqb a x && eqb b y) r in
    (eqb-true a x (and_left (eqb a x) _ p), eqb-true b y (and_right (eqb a x) _ p))
  where
    left : (u : Bool) → (u || false) ≡ true → u ≡ true
    left true e = refl
    left false e = e

module _ (s : List ℕ) (acc : Accepted s) (seat : Seat) (side : Side) (d : ℕ) where
  -- what the office sees
  abbrev g : View
  g = seen_from s seat

  abbrev Arcs : ℕ → ℕ → Type 0
  Arcs = Steps s (edge_table s) (walk_for seat side d) (header_of s).edges

  -- a link between two node rows, as the office sees it
  pub data Link (a b : ℕ) : Type 0 where
    joins : (p c : ℕ) → node_key_at s a ≡ person p → node_key_at s b ≡ category c → member g p c ≡ true → Link a b
    climbs : (c c' : ℕ) → node_key_at s a ≡ category c → node_key_at s b ≡ category c' → step g side c c' ≡ true → Link a b
    gives-right : (c v : ℕ) → node_key_at s a ≡ category c → node_key_at s b ≡ deed d v → right g side c d v ≡ true → Link a b
    serves : (x v f : ℕ) → node_key_at s a ≡ deed x v → node_key_at s b ≡ folio f → applies g x v f ≡ true → Link a b

  -- a node's key by its type: only a deed has a variant
  plain-key : (i c : ℕ) → i < (header_of s).nodes → (node_at s i).class ≡ c → (c ≡ 3 → ⊥) → node_key_at s i ≡ identity c (node_at s i).number 0
  plain-key i c h e n =
      let v : (node_at s i).variant ≡ 0 = (acc.nodes.fit i h).variant (λ q. n (sym e ∙ q)) in
      cc

  deed-key : (i : ℕ) → (node_at s i).class ≡ deed_type → node_key_at s i ≡ deed (node_at s i).number (node_at s i).variant
  deed-key i e = cc

  abbrev edge : ℕ → Edge
  edge j = edge_of s j

  -- the part of the test that is about kinds
  abbrev kind_test : ℕ → ℕ → ℕ → Bool
  kind_test r kind n = eqb kind 2 || (not (eqb r 0) && (eqb kind 1 || (eqb kind 5 || (eqb kind r && (eqb d 0 || eqb n d)))))

  not-turned : (j : ℕ) → ((edge j).kind ≡ contained_kind → ⊥) → turned (walk_for seat side d) (edge j) ≡ false
  not-turned j n = rw (ne_eqb (edge j).kind 2 n) (and-false (eqb (right_kind side) 4))
    where
      and-false : (b : Bool) → (b && false) ≡ false
      and-false true = refl
      and-false false = refl

  straight-ends : (j a b : ℕ) → turned (walk_for seat side d) (edge j) ≡ false → tail_of (walk_for seat side d) (edge j) ≡ a → head_of (walk_for seat side d) (edge j) ≡ b → ((edge j).from ≡ a) × ((edge j).to ≡ b)
  unfolding tail_of head_of
  straight-ends j a b t p q = (rw t at p, rw t at q)

  turned-ends : (j a b : ℕ) → turned (walk_for seat side d) (edge j) ≡ true → tail_of (walk_for seat side d) (edge j) ≡ a → head_of (walk_for seat side d) (edge j) ≡ b → ((edge j).to ≡ a) × ((edge j).from ≡ b)
  unfolding tail_of head_of
  turned-ends j a b t p q = (rw t at p, rw t at q)

  -- a row of another kind than 2 runs from its from row to its to row
  straight : (j a b : ℕ) → ((edge j).kind ≡ contained_kind → ⊥) → tail_of (walk_for seat side d) (edge j) ≡ a → head_of (walk_for seat side d) (edge j) ≡ b → ((edge j).from ≡ a) × ((edge j).to ≡ b)
  straight j a b n p q = straight-ends j a b (not-turned j n) p q

  -- a ban's steps run against containment
  step-turn : (side : Side) (c c' : ℕ) → step g side c c' ≡ cond (eqb (right_kind side) 4) (contained g c' c) (contained g c c')
  step-turn grant c c' = refl
  step-turn ban c c' = refl

  right-apart : (side : Side) → right_kind side ≡ 2 → ⊥
  right-apart grant e = omega (arith, e)
  right-apart ban e = omega (arith, e)

  -- the relation of a row that counts stands
  row-stands : (j : ℕ) → j < (header_of s).edges → counts_at seat (edge j) ≡ true → g.edge (relation (edge j).kind (node_key_at s (edge j).from) (node_key_at s (edge j).to)) ≡ true
  unfolding edge_row
  row-stands j h m = seen-edge s acc seat.office _ (record { row = j; inside = h; names = refl; bears = m })

  module _ (some : d ≡ 0 → ⊥) (j a b : ℕ) (h : j < (header_of s).edges) (marks : counts_at seat (edge j) ≡ true) (p : tail_of (walk_for seat side d) (edge j) ≡ a) (q : head_of (walk_for seat side d) (edge j) ≡ b) where
    fits : ends_fit (edge j).kind (node_at s (edge j).from).class (node_at s (edge j).to).class ≡ true
    fits = (acc.edges.fit j h).ends

    from_in : (edge j).from < (header_of s).nodes
    from_in = (acc.edges.shaped j h).from

    to_in : (edge j).to < (header_of s).nodes
    to_in = (acc.edges.shaped j h).to

    -- the relation with the keys put in
    stands : (kind : ℕ) (x y : Key) → (edge j).kind ≡ kind → node_key_at s (edge j).from ≡ x → node_key_at s (edge j).to ≡ y → g.edge (relation kind x y) ≡ true
    stands kind x y e f t =
        subst (λ (z : Key). g.edge (relation kind x z) ≡ true) t
        (subst (λ (z : Key). g.edge (relation kind z (node_key_at s (edge j).to)) ≡ true) f
        (subst (λ (z : ℕ). g.edge (relation z (node_key_at s (edge j).from) (node_key_at s (edge j).to)) ≡ true) e (row-stands j h marks)))

    classes : (kind x y : ℕ) → (edge j).kind ≡ kind → ends_fit kind (node_at s (edge j).from).class (node_at s (edge j).to).class ≡ ((eqb (node_at s (edge j).from).class x && eqb (node_at s (edge j).to).class y) || false)
        → ((node_at s (edge j).from).class ≡ x) × ((node_at s (edge j).to).class ≡ y)
    classes kind x y e t = ends-are kind _ _ x y (rw e at fits) t

    linked-one : (edge j).kind ≡ member_kind → Link a b
    linked-one e =
        let m = straight j a b (λ z. omega arith) p q in
        let c = classes 1 1 2 e (or-tail (node_at s (edge j).from).class (node_at s (edge j).to).class) in
        let x = plain-key (edge j).from 1 from_in c.0 (λ z. omega arith) in
        let y = plain-key (edge j).to 2 to_in c.1 (λ z. omega arith) in
        joins _ _ (ap (node_key_at s) (sym m.0) ∙ x) (ap (node_key_at s) (sym m.1) ∙ y) (stands 1 _ _ e x y)
      where
        or-tail : (u v : ℕ) → ends_fit 1 u v ≡ ((eqb u 1 && eqb v 2) || false)
        or-tail u v = refl

    linked-two : (edge j).kind ≡ contained_kind → Link a b
    linked-two e = go (eqb (right_kind side) 4) refl
      where
        or-tail : (u v : ℕ) → ends_fit 2 u v ≡ ((eqb u 2 && eqb v 2) || false)
        or-tail u v = refl

        c : ((node_at s (edge j).from).class ≡ category_type) × ((node_at s (edge j).to).class ≡ category_type)
        c = classes 2 2 2 e (or-tail (node_at s (edge j).from).class (node_at s (edge j).to).class)

        x : node_key_at s (edge j).from ≡ category (node_at s (edge j).from).number
        x = plain-key (edge j).from 2 from_in c.0 (λ z. omega arith)

        y : node_key_at s (edge j).to ≡ category (node_at s (edge j).to).number
        y = plain-key (edge j).to 2 to_in c.1 (λ z. omega arith)

        go : (t : Bool) → eqb (right_kind side) 4 ≡ t → Link a b
        go true t =
            let m = turned-ends j a b (rw (t, eq-eqb (edge j).kind 2 e)) p q in
            climbs _ _ (ap (node_key_at s) (sym m.0) ∙ y) (ap (node_key_at s) (sym m.1) ∙ x) (step-turn side _ _ ∙ rw t (stands 2 _ _ e x y))
        go false t =
            let m = straight-ends j a b (rw t) p q in
            climbs _ _ (ap (node_key_at s) (sym m.0) ∙ x) (ap (node_key_at s) (sym m.1) ∙ y) (step-turn side _ _ ∙ rw t (stands 2 _ _ e x y))

    linked-right : (edge j).kind ≡ right_kind side → (node_at s (edge j).to).number ≡ d → Link a b
    linked-right e n =
        let m = straight j a b (λ z. right-apart side (sym e ∙ z)) p q in
        let c = classes (right_kind side) 2 3 e (or-tail side (node_at s (edge j).from).class (node_at s (edge j).to).class) in
        let x = plain-key (edge j).from 2 from_in c.0 (λ z. omega arith) in
        let y : node_key_at s (edge j).to ≡ deed d (node_at s (edge j).to).variant = deed-key (edge j).to c.1 ∙ ap (λ (z : ℕ). deed z (node_at s (edge j).to).variant) n in
        gives-right _ _ (ap (node_key_at s) (sym m.0) ∙ x) (ap (node_key_at s) (sym m.1) ∙ y) (stands (right_kind side) _ _ e x y)
      where
        or-tail : (side : Side) (u v : ℕ) → ends_fit (right_kind side) u v ≡ ((eqb u 2 && eqb v 3) || false)
        or-tail grant u v = refl
        or-tail ban u v = refl

    linked-five : (edge j).kind ≡ applies_kind → Link a b
    linked-five e =
        let m = straight j a b (λ z. omega arith) p q in
        let c = classes 5 3 4 e (or-tail (node_at s (edge j).from).class (node_at s (edge j).to).class) in
        let x = deed-key (edge j).from c.0 in
        let y = plain-key (edge j).to 4 to_in c.1 (λ z. omega arith) in
        serves _ _ _ (ap (node_key_at s) (sym m.0) ∙ x) (ap (node_key_at s) (sym m.1) ∙ y) (stands 5 _ _ e x y)
      where
        or-none : (t : Bool) → t ≡ (t || false)
        or-none true = refl
        or-none false = refl

        or-tail : (u v : ℕ) → ends_fit 5 u v ≡ ((eqb u 3 && eqb v 4) || false)
        or-tail u v = or-none (eqb u 3 && eqb v 4)

    -- a right of the walk's own kind, on a deed of the number asked
    own-right : (kind : ℕ) → (edge j).kind ≡ kind → kind_test (right_kind side) kind (node_at s (edge j).to).number ≡ (eqb kind (right_kind side) && (eqb d 0 || eqb (node_at s (edge j).to).number d))
        → kind_test (right_kind side) (edge j).kind (node_at s (edge j).to).number ≡ true → Link a b
    own-right kind e u t =
        let r : (eqb kind (right_kind side) && (eqb d 0 || eqb (node_at s (edge j).to).number d)) ≡ true = sym u ∙ subst (λ (z : ℕ). kind_test (right_kind side) z (node_at s (edge j).to).number ≡ true) e t in
        linked-right (e ∙ eqb-true kind (right_kind side) (and_left (eqb kind (right_kind side)) _ r)) (eqb-true _ d (rw (ne_eqb d 0 some) at (and_right (eqb kind (right_kind side)) _ r)))

    pub linked : kind_test (right_kind side) (edge j).kind (node_at s (edge j).to).number ≡ true → Link a b
    linked t = go (kind-of (edge j).kind (acc.edges.shaped j h).kind-low (acc.edges.shaped j h).kind-high)
      where
        others : (side : Side) (kind n : ℕ) → eqb kind 2 ≡ false → eqb kind 1 ≡ false → eqb kind 5 ≡ false → (eqb kind 2 || (not (eqb (right_kind side) 0) && (eqb kind 1 || (eqb kind 5 || (eqb kind (right_kind side) && (eqb d 0 || eqb n d)))))) ≡ (eqb kind (right_kind side) && (eqb d 0 || eqb n d))
        others grant kind n x y z = rw (x, y, z)
        others ban kind n x y z = rw (x, y, z)

        go : Kind (edge j).kind → Link a b
        go (one e) = linked-one e
        go (two e) = linked-two e
        go (three e) = own-right 3 e (others side 3 _ refl refl refl) t
        go (four e) = own-right 4 e (others side 4 _ refl refl refl) t
        go (five e) = linked-five e

  -- each arc is a relation that the office sees
  pub link-of : (d ≡ 0 → ⊥) → (a b : ℕ) → Arcs a b → Link a b
  unfolding arc_at takes
  link-of some a b x =
      linked some x.row a b x.inside
      (and_left (counts_at seat (edge x.row)) _ x.is) x.leaves x.enters
      (and_right (counts_at seat (edge x.row)) _ x.is)

  -- ---- and each relation is an arc

  -- the row of a relation that stands
  record Arrow (kind : ℕ) (x y : Key) : Type 0 where
    pub row : ℕ
    pub inside : row < (header_of s).edges
    pub bears : counts_at seat (edge row) ≡ true
    pub kind-is : (edge row).kind ≡ kind
    pub from_is : node_key_at s (edge row).from ≡ x
    pub to_is : node_key_at s (edge row).to ≡ y

  arrow-of : (kind t n v t' n' v' : ℕ) → g.edge (relation kind (identity t n v) (identity t' n' v')) ≡ true → Arrow kind (identity t n v) (identity t' n' v')
  unfolding edge_row
  arrow-of kind t n v t' n' v' e =
      let r = edge-seen s acc seat.office _ e in
      record { row = r.row; inside = r.inside; bears = r.bears; kind-is = cc r.names; from_is = cc r.names; to_is = cc r.names }

  -- a node row that an arc leads to from a, with its key
  pub record Onto (a : ℕ) (x : Key) : Type 0 where
    pub row : ℕ
    pub arc : Arcs a row
    pub inside : row < (header_of s).nodes
    pub names : node_key_at s row ≡ x

  pub same_row : (i j : ℕ) (x : Key) → i < (header_of s).nodes → j < (header_of s).nodes → node_key_at s i ≡ x → node_key_at s j ≡ x → i ≡ j
  same_row i j x g h p q = one-row (node_key_at s) (header_of s).nodes acc.nodes.rise i j g h (p ∙ sym q)

  arc-by : (j : ℕ) → j < (header_of s).edges → counts_at seat (edge j) ≡ true → kind_test (right_kind side) (edge j).kind (node_at s (edge j).to).number ≡ true
      → Arcs (tail_of (walk_for seat side d) (edge j)) (head_of (walk_for seat side d) (edge j))
  unfolding arc_at takes
  arc-by j h m t = record { row = j; inside = h; is = both m t; leaves = refl; enters = refl }

  onto-straight : (kind : ℕ) (x y : Key) (a : ℕ) → a < (header_of s).nodes → node_key_at s a ≡ x → (r : Arrow kind x y) → turned (walk_for seat side d) (edge r.row) ≡ false
      → kind_test (right_kind side) kind (node_at s (edge r.row).to).number ≡ true → Onto a y
  unfolding tail_of head_of
  onto-straight kind x y a l e r t u =
      let p = acc.edges.shaped r.row r.inside in
      let z = arc-by r.row r.inside r.bears (subst (λ (w : ℕ). kind_test (right_kind side) w (node_at s (edge r.row).to).number ≡ true) (sym r.kind-is) u) in
      let f : (edge r.row).from ≡ a = same_row _ a x p.from l r.from_is e in
      record { row = (edge r.row).to; arc = subst (λ (w : ℕ). Arcs w (edge r.row).to) f (rw t at z); inside = p.to; names = r.to_is }

  onto-turned : (x y : Key) (a : ℕ) → a < (header_of s).nodes → node_key_at s a ≡ y → (r : Arrow 2 x y) → turned (walk_for seat side d) (edge r.row) ≡ true → Onto a x
  unfolding tail_of head_of
  onto-turned x y a l e r t =
      let p = acc.edges.shaped r.row r.inside in
      let z = arc-by r.row r.inside r.bears (or_left (eqb (edge r.row).kind 2) _ (eq-eqb (edge r.row).kind 2 r.kind-is)) in
      let f : (edge r.row).to ≡ a = same_row _ a y p.to l r.to_is e in
      record { row = (edge r.row).from; arc = subst (λ (w : ℕ). Arcs w (edge r.row).from) f (rw t at z); inside = p.from; names = r.from_is }

  pub member-arc : (a p c : ℕ) → a < (header_of s).nodes → node_key_at s a ≡ person p → member g p c ≡ true → Onto a (category c)
  member-arc a p c l e m =
      let r = arrow-of 1 1 p 0 2 c 0 m in
      onto-straight 1 (person p) (category c) a l e r (not-turned r.row (λ z. let q = r.kind-is in omega arith)) (kinds side)
    where
      kinds : (side : Side) → (eqb 1 2 || (not (eqb (right_kind side) 0) && true)) ≡ true
      kinds grant = refl
      kinds ban = refl

  pub step-arc : (a c c' : ℕ) → a < (header_of s).nodes → node_key_at s a ≡ category c → step g side c c' ≡ true → Onto a (category c')
  step-arc a c c' l e m = go (eqb (right_kind side) 4) refl (sym (step-turn side c c') ∙ m)
    where
      go : (t : Bool) → eqb (right_kind side) 4 ≡ t → cond (eqb (right_kind side) 4) (contained g c' c) (contained g c c') ≡ true → Onto a (category c')
      go true t u =
          let r = arrow-of 2 2 c' 0 2 c 0 (rw t at u) in
          onto-turned (category c') (category c) a l e r (rw (t, eq-eqb (edge r.row).kind 2 r.kind-is))
      go false t u =
          let r = arrow-of 2 2 c 0 2 c' 0 (rw t at u) in
          onto-straight 2 (category c) (category c') a l e r (rw t) refl

  pub right-arc : (a c v : ℕ) → a < (header_of s).nodes → node_key_at s a ≡ category c → right g side c d v ≡ true → Onto a (deed d v)
  right-arc a c v l e m =
      let r = arrow-of (right_kind side) 2 c 0 3 d v m in
      let n : (node_at s (edge r.row).to).number ≡ d = cc r.to_is in
      onto-straight (right_kind side) (category c) (deed d v) a l e r (not-turned r.row (λ z. right-apart side (sym r.kind-is ∙ z)))
      (kinds side _ (or_right (eqb d 0) _ (eq-eqb _ d n)))
    where
      kinds : (side : Side) (n : ℕ) → (eqb d 0 || eqb n d) ≡ true → (eqb (right_kind side) 2 || (not (eqb (right_kind side) 0) && (eqb (right_kind side) 1 || (eqb (right_kind side) 5 || (eqb (right_kind side) (right_kind side) && (eqb d 0 || eqb n d)))))) ≡ true
      kinds grant n e = e
      kinds ban n e = e

  pub applies-arc : (a x v f : ℕ) → a < (header_of s).nodes → node_key_at s a ≡ deed x v → applies g x v f ≡ true → Onto a (folio f)
  applies-arc a x v f l e m =
      let r = arrow-of 5 3 x v 4 f 0 m in
      onto-straight 5 (deed x v) (folio f) a l e r (not-turned r.row (λ z. let q = r.kind-is in omega arith)) (kinds side)
    where
      kinds : (side : Side) → (eqb 5 2 || (not (eqb (right_kind side) 0) && (eqb 5 1 || true))) ≡ true
      kinds grant = refl
      kinds ban = refl
