-- The place that a search tells before a row is added is the row at which it stands then; and by the tables alone there is one sheet with the row more.
-- Assumes nothing.
use Prim.Native.Nat.{ℕ, suc, ◌<◌}
use mathlib.Core.Path.{◌≡◌, refl, sym, ap, ap₂, subst, ◌∙◌}
use mathlib.Core.Bool.{Bool, true, false, true≢false}
use mathlib.Core.List.{List}
use native.Mathlib.Omega.{arith}
use native.Mathlib.Decide.{dec_lt}
use Rattle.tables.specs.Count.{has, shared}
use Rattle.tables.specs.Key.{Key, relation, below_key, same_key}
use Rattle.tables.specs.Marks.{marked}
use Rattle.tables.specs.Table.{marks_at}
use Rattle.tables.proofs.Counts.{shared-swap, many-all, has-row}
use Rattle.tables.proofs.Keys.{Lies, lower, equal, higher, lies, below_apart, below-asym, below_irrefl, one-row, same-eq, eq-same}
use Rattle.tables.proofs.Tables.{row_of}
use Rattle.sheet.specs.declared.Cells.{Cells}
use Rattle.sheet.specs.declared.Edge.{Edge}
use Rattle.sheet.specs.declared.Half.{Half}
use Rattle.sheet.specs.declared.Half.TheVariants.{Nodes, Edges}
use Rattle.sheet.specs.declared.Node.{Node}
use Rattle.sheet.specs.Accepted.{RowsRise, Accepted}
use Rattle.sheet.specs.Found.{PlaceIs}
use Rattle.sheet.specs.Named.{node_row, edge_row, row_at}
use Rattle.sheet.specs.Rows.{header_of, edge_of, node_key, node_key_at, count_in, as_edge, edge_key, row_key, row_key_at}
use Rattle.sheet.proofs.Naming.{lower-named, marks-held}
use Rattle.sheet.proofs.Whole.{same_nodes, sheet-alike}
use Rattle.combine.proofs.Reading.{half-table}
use Rattle.meaning.specs.Added.{table_in, other_half, key_named, IsAdded}
use Rattle.sheet.specs.Verdict.{verdict}
use Rattle.sheet.proofs.Accepting.{accepted}
use Rattle.sheet.proofs.Places.{place-one, half-rises}
use Rattle.sheet.proofs.Reading.{half-formed}
use Rattle.sheet.proofs.Refusing.{then-good}
use Rattle.question.specs.declared.Answer.{Answer}
use Rattle.question.specs.Asked.{after_sheet}
use Rattle.add.specs.Adding.{AddedAt, AddsRow}
use Rattle.add.proofs.Showing.{shows-row-one}
use Rattle.add.proofs.Adding.{EndsIn, named-words}
use Rattle.add.proofs.Alone.{table_is, table-marks}

-- ---- a row lies among the rows by its words as it does by what it names

module _ (s : List ℕ) (v : Accepted s) (c : Cells) where
  named-lower : (half : Half) → EndsIn half s c → (i : ℕ) → i < count_in half (header_of s) → below_key (row_key_at half s i) (row_key c) ≡ below_key (row_at half s i).key (key_named half s c)
  unfolding node_row edge_row
  named-lower Nodes n i l = refl
  named-lower Edges n i l = go (lies (edge_key e) (edge_key d))
    where
      e : Edge
      e = edge_of s i

      d : Edge
      d = as_edge c

      go : Lies (edge_key e) (edge_key d) → below_key (edge_key e) (edge_key d) ≡ below_key (relation e.kind (node_key_at s e.from) (node_key_at s e.to)) (relation d.kind (node_key_at s d.from) (node_key_at s d.to))
      go (lower u w x) = u ∙ sym (lower-named s (header_of s).nodes v.nodes.rise e d (v.edges.shaped i l).from n.0 (v.edges.shaped i l).to n.1 u)
      go (equal q) =
          let kind : e.kind ≡ d.kind = cc q in
          let from : e.from ≡ d.from = cc q in
          let to : e.to ≡ d.to = cc q in
          rw (kind, from, to) (below_irrefl (edge_key d) ∙ sym (below_irrefl (relation d.kind (node_key_at s d.from) (node_key_at s d.to))))
      go (higher u w x) = x ∙ sym (below-asym (relation d.kind (node_key_at s d.from) (node_key_at s d.to)) (relation e.kind (node_key_at s e.from) (node_key_at s e.to)) (lower-named s (header_of s).nodes v.nodes.rise d e n.0 (v.edges.shaped i l).from n.1 (v.edges.shaped i l).to u))

  place-named : (half : Half) → EndsIn half s c → (i : ℕ) → PlaceIs (row_key_at half s) (count_in half (header_of s)) (row_key c) i → PlaceIs (λ x. (row_at half s x).key) (count_in half (header_of s)) (key_named half s c) i
  place-named half n i p =
      record {
        inside = p.inside;
        before = λ j l. sym (named-lower half n j (omega (arith, p.inside))) ∙ p.before j l;
        after = λ j l d. sym (named-lower half n j d) ∙ p.after j l d;
      }

-- ---- two rising tables with the same rows below a key have one place for it

pub record RowWith (f : ℕ → Key) (n : ℕ) (k : Key) : Type 0 where
  pub row : ℕ
  pub inside : row < n
  pub names : f row ≡ k

-- a row that is lower than the key stands before its place
pub before-place : (f : ℕ → Key) (n : ℕ) (k : Key) (i : ℕ) → PlaceIs f n k i → (x : ℕ) → x < n → below_key (f x) k ≡ true → x < i
before-place f n k i p x l e = go (dec_lt x i)
  where
    go : Dec (x < i) → x < i
    go (yes h) = h
    go (no h) = absurd (true≢false (sym e ∙ p.after x (omega arith) l))

module _ (f : ℕ → Key) (n : ℕ) (up : RowsRise f n) (g : ℕ → Key) (m : ℕ) (rise : RowsRise g m) (k : Key) (i j : ℕ) (p : PlaceIs f n k i) (q : PlaceIs g m k j)
    (to : (x : ℕ) → x < n → below_key (f x) k ≡ true → RowWith g m (f x)) (back : (y : ℕ) → y < m → below_key (g y) k ≡ true → RowWith f n (g y)) where
  places-agree : i ≡ j
  unfolding shared
  places-agree =
      let a = many-all (λ x. has j g (f x)) i (λ x l.
      let r = to x (omega (arith, p.inside)) (p.before x l) in
      has-row j g (f x) r.row (before-place g m k j q r.row r.inside (ap (λ (z : Key). below_key z k) r.names ∙ p.before x l)) r.names) in
      let b = many-all (λ y. has i f (g y)) j (λ y l.
      let r = back y (omega (arith, q.inside)) (q.before y l) in
      has-row i f (g y) r.row (before-place f n k i p r.row r.inside (ap (λ (z : Key). below_key z k) r.names ∙ q.before y l)) r.names) in
      let w = shared-swap j g (λ x y l d. one-row g m rise x y (omega (arith, q.inside)) (omega (arith, q.inside))) i f (λ x y l d. one-row f n up x y (omega (arith, p.inside)) (omega (arith, p.inside))) in
      sym a ∙ (w ∙ b)

-- ---- before and after a row is added

-- a row of a half, by its marks
pub marked_row : (half : Half) (s : List ℕ) (k : Key) → 0 < marks_at (table_in half s) k → RowWith (λ x. (row_at half s x).key) (count_in half (header_of s)) k
marked_row half s k l = let r = row_of _ (row_at half s) k (rw (table_is half s) at l) in record { row = r.row; inside = r.inside; names = r.names }

pub row-marked : (half : Half) (s : List ℕ) → Accepted s → (x : ℕ) → x < count_in half (header_of s) → 0 < marks_at (table_in half s) (row_at half s x).key
row-marked half s v x l = rw (table-marks half s v (row_at half s x).key x l refl) ((half-table s (header_of s) v half).some x l)

-- what is named is the same: an edge is added beside the same node rows
pub named-same : (half : Half) (s : List ℕ) → Accepted s → (c : Cells) (t : List ℕ) → EndsIn half s c → IsAdded half s c t → EndsIn half t c × (key_named half t c ≡ key_named half s c)
named-same Nodes s v c t n X = (tt {0}, refl)
named-same Edges s v c t n X =
    let e = same_nodes t s X.accepted v X.rest in
    let a : c.second < (header_of t).nodes = omega (arith, n.0, e.0) in
    let b : c.third < (header_of t).nodes = omega (arith, n.1, e.0) in
    ((a, b), ap₂ (λ (x y : Node). relation c.first (node_key x) (node_key y)) (e.1 c.second a) (e.1 c.third b))

module _ (half : Half) (s : List ℕ) (v : Accepted s) (c : Cells) (n : EndsIn half s c) (t : List ℕ) (X : IsAdded half s c t) where
  abbrev key : Key
  key = key_named half s c

  same : (k : Key) → below_key k key ≡ true → marks_at (table_in half t) k ≡ marks_at (table_in half s) k
  same k l = X.others k (below_apart k key l)

  -- a row's place is told by the sheet that it is added to
  pub place_kept : (i j : ℕ) → PlaceIs (row_key_at half s) (count_in half (header_of s)) (row_key c) i → PlaceIs (row_key_at half t) (count_in half (header_of t)) (row_key c) j → i ≡ j
  place_kept i j p q =
      let m = named-same half s v c t n X in
      places-agree (λ x. (row_at half s x).key) (count_in half (header_of s)) (half-table s (header_of s) v half).up
      (λ x. (row_at half t x).key) (count_in half (header_of t)) (half-table t (header_of t) X.accepted half).up key i j (place-named s v c half n i p)
      (subst (λ (k : Key). PlaceIs (λ x. (row_at half t x).key) (count_in half (header_of t)) k j) m.1 (place-named t X.accepted c half m.0 j q))
      (λ x l d. marked_row half t (row_at half s x).key (rw (same (row_at half s x).key d) (row-marked half s v x l)))
      (λ y l d. marked_row half s (row_at half t y).key (rw (sym (same (row_at half t y).key d)) (row-marked half t X.accepted y l)))

  -- and it stands there
  pub stands-then : 0 < c.offices → has (count_in half (header_of t)) (row_key_at half t) (row_key c) ≡ true
  stands-then l =
      let m = named-same half s v c t n X in
      let r = marked_row half t key (omega (arith, X.row)) in
      has-row _ _ _ r.row r.inside (named-words half t X.accepted c m.0 r.row r.inside (r.names ∙ sym m.1))

-- ---- one sheet only has the row more

module _ (half : Half) (s : List ℕ) (c : Cells) (t u : List ℕ) (X : IsAdded half s c t) (Y : IsAdded half s c u) where
  own-marks : (k : Key) → marks_at (table_in half t) k ≡ marks_at (table_in half u) k
  own-marks k = go (same_key k (key_named half s c)) refl
    where
      go : (b : Bool) → same_key k (key_named half s c) ≡ b → marks_at (table_in half t) k ≡ marks_at (table_in half u) k
      go true e = rw (same-eq k (key_named half s c) e) (X.row ∙ sym Y.row)
      go false e =
          let apart : k ≡ key_named half s c → ⊥ = (λ q. true≢false (sym (eq-same k (key_named half s c) q) ∙ e)) in
          X.others k apart ∙ sym (Y.others k apart)

  all-marks : (x y : Half) → ((k : Key) → marks_at (table_in x t) k ≡ marks_at (table_in x u) k) → ((k : Key) → marks_at (table_in (other_half x) t) k ≡ marks_at (table_in (other_half x) u) k) → (k : Key) → marks_at (table_in y t) k ≡ marks_at (table_in y u) k
  all-marks Nodes Nodes a b = a
  all-marks Nodes Edges a b = b
  all-marks Edges Nodes a b = b
  all-marks Edges Edges a b = a

  same-marks : (y : Half) (k : Key) → marks_at (table_in y t) k ≡ marks_at (table_in y u) k
  same-marks y = all-marks half y own-marks (λ k. X.rest k ∙ sym (Y.rest k))

  pub added-one : t ≡ u
  added-one =
      sheet-alike t u X.accepted Y.accepted (X.offices ∙ sym Y.offices)
      (λ i l. marks-held t u X.accepted Y.accepted (suc i) (suc i) (λ k. ap (λ (m : ℕ). marked m (suc i)) (same-marks Nodes k)) (λ k. ap (λ (m : ℕ). marked m (suc i)) (same-marks Edges k)))

-- so the promise has one answer and leaves one output
pub adds_one : (half : Half) (s : List ℕ) (c : Cells) (out : List ℕ) {a b : Answer} {o o' : List ℕ} → AddsRow half s c out a o → AddsRow half s c out b o' → (a ≡ b) × (o ≡ o')
unfolding after_sheet
adds_one half s c out x y =
    shows-row-one _ (AddedAt half s c)
    (λ z i j t u p q.
    let v = accepted 1 s (then-good (verdict 1 s) _ z).0 in
    (place-one (row_key_at half s) (count_in half (header_of s)) (half-rises half s (header_of s) (half-formed s (header_of s) v half)) (row_key c) i j p.1 q.1, added-one half s c t u p.0 q.0))
    out x y
