-- Where a row goes in a joint sheet: at its place in the one sheet plus its place in the other, less the rows before it that both have.
-- Assumes nothing.
use Prim.Native.Nat.{ℕ, zero, suc, ◌+◌, ◌-◌, ◌<◌}
use mathlib.Core.Path.{◌≡◌, refl, sym, ap, ◌∙◌}
use mathlib.Core.Bool.{Bool, true, false, true≢false, ◌&&◌, ◌||◌}
use mathlib.Core.List.{List}
use native.Mathlib.Omega.{arith}
use native.Mathlib.Decide.{dec_lt}
use Rattle.tables.specs.Count.{number_of, how_many, has, shared}
use Rattle.tables.specs.Key.{Key, below_key}
use Rattle.tables.specs.Marks.{marked}
use Rattle.tables.specs.Office.{View, Same}
use Rattle.tables.proofs.Counts.{shared-swap, many-all, many-same, has-row, has_some, has-not}
use Rattle.tables.proofs.Keys.{one-row}
use Rattle.tables.proofs.Marks.{some-office}
use Rattle.paths.proofs.Tests.{or_left, or_right}
use Rattle.sheet.specs.declared.Half.{Half}
use Rattle.sheet.specs.declared.Half.TheVariants.{Nodes, Edges}
use Rattle.sheet.specs.Accepted.{RowsRise, Accepted}
use Rattle.sheet.specs.Found.{PlaceIs}
use Rattle.sheet.specs.Named.{row_at, held_at}
use Rattle.sheet.specs.Rows.{header_of, count_in}
use Rattle.sheet.proofs.Naming.{node-held, held-node, edge-held, held-edge}
use Rattle.combine.proofs.Reading.{half-table, half-marks}
use Rattle.meaning.specs.Added.{held_in}
use Rattle.meaning.specs.Join.{offices_of, IsJoin}
use Rattle.add.proofs.Placing.{RowWith, before-place}

-- ---- counting

-- those that pass the one test or the other, and those that pass both, are as many as pass each
many-two : (p q : ℕ → Bool) (n : ℕ) → how_many (λ x. p x || q x) n + how_many (λ x. p x && q x) n ≡ how_many p n + how_many q n
unfolding how_many
many-two p q zero = refl
many-two p q (suc n) = omega (arith, many-two p q n, one (p n) (q n))
  where
    one : (a b : Bool) → number_of (a || b) + number_of (a && b) ≡ number_of a + number_of b
    one true true = refl
    one true false = refl
    one false true = refl
    one false false = refl

-- a table's rows below a key, as they stand in a table that has them all
module _ (n : ℕ) (f : ℕ → Key) (up : RowsRise f n) (k : ℕ) (h : ℕ → Key) (rise : RowsRise h k) (all : (x : ℕ) → x < n → RowWith h k (f x)) (key : Key) (i q : ℕ) (p : PlaceIs f n key i) (r : PlaceIs h k key q) where
  same-has : (z : ℕ) → z < q → has i f (h z) ≡ has n f (h z)
  same-has z l = go (has n f (h z)) refl
    where
      go : (b : Bool) → has n f (h z) ≡ b → has i f (h z) ≡ has n f (h z)
      go true e =
          let (x, lx, d) = has_some n f (h z) e in
          has-row i f (h z) x (before-place f n key i p x lx (ap (λ (y : Key). below_key y key) d ∙ r.before z l)) d ∙ sym e
      go false e = has-not i f (h z) (λ x lx d. true≢false (sym (has-row n f (h z) x (omega (arith, p.inside)) d) ∙ e)) ∙ sym e

  pub there-before : how_many (λ z. has n f (h z)) q ≡ i
  unfolding shared
  there-before =
      let a = many-all (λ x. has q h (f x)) i (λ x l.
      let w = all x (omega (arith, p.inside)) in
      has-row q h (f x) w.row (before-place h k key q r w.row w.inside (ap (λ (y : Key). below_key y key) w.names ∙ p.before x l)) w.names) in
      let s = shared-swap q h (λ x y l d. one-row h k rise x y (omega (arith, r.inside)) (omega (arith, r.inside))) i f (λ x y l d. one-row f n up x y (omega (arith, p.inside)) (omega (arith, p.inside))) in
      sym (many-same (λ z. has i f (h z)) (λ z. has n f (h z)) q same-has) ∙ (sym s ∙ a)

-- ---- what offices hold, and rows

held_in_lem : (half : Half) (u : List ℕ) → Accepted u → (office : ℕ) (k : Key) → held_in half (held_at u office) k ≡ true → RowWith (λ x. (row_at half u x).key) (count_in half (header_of u)) k
held_in_lem Nodes u w office k e = let r = node-held u w office k e in record { row = r.row; inside = r.inside; names = r.names }
held_in_lem Edges u w office k e = let r = edge-held u w office k e in record { row = r.row; inside = r.inside; names = r.names }

in_held : (half : Half) (u : List ℕ) → Accepted u → (office x : ℕ) → x < count_in half (header_of u) → marked (row_at half u x).marks office ≡ true → held_in half (held_at u office) (row_at half u x).key ≡ true
in_held Nodes u w office x l e = held-node u w office _ (record { row = x; inside = l; names = refl; bears = e })
in_held Edges u w office x l e = held-edge u w office _ (record { row = x; inside = l; names = refl; bears = e })

same_in : (half : Half) (g h : View) → Same g h → (k : Key) → held_in half g k ≡ held_in half h k
same_in Nodes g h e k = e.nodes k
same_in Edges g h e k = e.edges k

-- ---- a joint sheet

module _ (half : Half) (a b j : List ℕ) (va : Accepted a) (vb : Accepted b) (J : IsJoin a b j) where
  abbrev named_in : List ℕ → ℕ → Key
  named_in u x = (row_at half u x).key

  abbrev rows : List ℕ → ℕ
  rows u = count_in half (header_of u)

  -- each row of either sheet is one of the joint sheet, and each of its rows one of either
  from_first : (x : ℕ) → x < rows a → RowWith (named_in j) (rows j) (named_in a x)
  from_first x l =
      let o = some-office (offices_of a) (row_at half a x).marks ((half-table a (header_of a) va half).some x l) (half-marks a (header_of a) va half x l) in
      held_in_lem half j J.accepted (suc o.index) (named_in a x) (same_in half _ _ (J.first o.index o.inside) (named_in a x) ∙ in_held half a va (suc o.index) x l o.bears)

  from_second : (y : ℕ) → y < rows b → RowWith (named_in j) (rows j) (named_in b y)
  from_second y l =
      let o = some-office (offices_of b) (row_at half b y).marks ((half-table b (header_of b) vb half).some y l) (half-marks b (header_of b) vb half y l) in
      held_in_lem half j J.accepted (suc (offices_of a + o.index)) (named_in b y) (same_in half _ _ (J.second o.index o.inside) (named_in b y) ∙ in_held half b vb (suc o.index) y l o.bears)

  to-either : (z : ℕ) → z < rows j → (has (rows a) (named_in a) (named_in j z) || has (rows b) (named_in b) (named_in j z)) ≡ true
  to-either z l =
      let o = some-office (offices_of j) (row_at half j z).marks ((half-table j (header_of j) J.accepted half).some z l) (half-marks j (header_of j) J.accepted half z l) in
      go o.index o.inside (in_held half j J.accepted (suc o.index) z l o.bears) (dec_lt o.index (offices_of a))
    where
      go : (o : ℕ) → o < offices_of j → held_in half (held_at j (suc o)) (named_in j z) ≡ true → Dec (o < offices_of a) → (has (rows a) (named_in a) (named_in j z) || has (rows b) (named_in b) (named_in j z)) ≡ true
      go o inside held (yes d) =
          let r = held_in_lem half a va (suc o) (named_in j z) (sym (same_in half (held_at j (suc o)) (held_at a (suc o)) (J.first o d) (named_in j z)) ∙ held) in
          or_left (has (rows a) (named_in a) (named_in j z)) (has (rows b) (named_in b) (named_in j z)) (has-row (rows a) (named_in a) (named_in j z) r.row r.inside r.names)
      go o inside held (no d) =
          let e : o ≡ offices_of a + (o - offices_of a) = omega arith in
          let l : o - offices_of a < offices_of b = omega (arith, J.offices) in
          let r = held_in_lem half b vb (suc (o - offices_of a)) (named_in j z) (sym (same_in half (held_at j (suc (offices_of a + (o - offices_of a)))) (held_at b (suc (o - offices_of a))) (J.second (o - offices_of a) l) (named_in j z)) ∙ (ap (λ (x : ℕ). held_in half (held_at j (suc x)) (named_in j z)) (sym e) ∙ held)) in
          or_right (has (rows a) (named_in a) (named_in j z)) (has (rows b) (named_in b) (named_in j z)) (has-row (rows b) (named_in b) (named_in j z) r.row r.inside r.names)

  pub place-joined : (k : Key) (i p q : ℕ) → PlaceIs (named_in a) (rows a) k i → PlaceIs (named_in b) (rows b) k p → PlaceIs (named_in j) (rows j) k q
      → q + how_many (λ z. has (rows a) (named_in a) (named_in j z) && has (rows b) (named_in b) (named_in j z)) q ≡ i + p
  place-joined k i p q x y w =
      let up = (half-table j (header_of j) J.accepted half).up in
      let s = there-before (rows a) (named_in a) (half-table a (header_of a) va half).up (rows j) (named_in j) up from_first k i q x w in
      let t = there-before (rows b) (named_in b) (half-table b (header_of b) vb half).up (rows j) (named_in j) up from_second k p q y w in
      let all = many-all (λ z. has (rows a) (named_in a) (named_in j z) || has (rows b) (named_in b) (named_in j z)) q (λ z l. to-either z (omega (arith, w.inside))) in
      omega (arith, many-two (λ z. has (rows a) (named_in a) (named_in j z)) (λ z. has (rows b) (named_in b) (named_in j z)) q, s, t, all)
