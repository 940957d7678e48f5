-- Removing an edge row at an office: there is one such sheet, every other office sees what it saw, and this one at most one relation less.
-- Assumes nothing.
use Prim.Native.Nat.{ℕ, suc, ◌+◌, ◌-◌, ◌^◌, ◌<◌, ◌≤◌}
use native.Mathlib.Omega.{arith}
use native.Mathlib.Decide.{dec_lt}
use mathlib.Core.Path.{◌≡◌, refl, sym, ap, subst, ◌∙◌}
use mathlib.Core.Bool.{Bool, true, false, cond}
use mathlib.Core.List.{List}
use mathlib.Core.Logic.{◌⊎◌, inl, inr, ⊎_elim, ◌↔◌}
use lib.Dec.{eqb, ltb}
use borrow.Author.Tests.{eq-eqb, ne_eqb, lt-ltb, le-ltb}
use Rattle.tables.specs.Key.{Key}
use Rattle.tables.specs.Marks.{marked, within}
use Rattle.tables.specs.Office.{View, Same}
use Rattle.tables.specs.Table.{Row, rows_of, marks_at}
use Rattle.tables.proofs.Alike.{same_view, held-seen}
use Rattle.tables.proofs.Keys.{same_or, one-row}
use Rattle.tables.proofs.Marks.{within-own, less-others, less-own, less-within}
use Rattle.tables.proofs.Tables.{RowAt, marks-none, marks-named, marks-twin, rows_alike}
use Rattle.sheet.specs.Rows.{header_of, edge_of, edge_table}
use Rattle.sheet.specs.Accepted.{Accepted}
use Rattle.sheet.specs.Named.{node_row, edge_row, tables_of, held_at, seen_at}
use Rattle.sheet.proofs.Fewer.{EdgesFrom, fewer-rows}
use Rattle.sheet.proofs.Naming.{edges-up, marks-held, node-marked, edge-marked}
use Rattle.sheet.proofs.Whole.{sheet-alike}
use Rattle.paths.proofs.Rounds.{same-number-or}
use Rattle.meaning.specs.Paths.{Side, HasPath}
use Rattle.meaning.specs.Questions.{Redundant}
use Rattle.meaning.specs.Removed.{IsRemoved, LacksAtMost}
use Rattle.meaning.proofs.Sparing.{path-spared}

-- ---- there is such a sheet

module _ (s : List ℕ) (v : Accepted s) (office j : ℕ) (inside : j < (header_of s).edges) (bears : marked (edge_row s (edge_table s) j).marks office ≡ true) where
  abbrev rest : ℕ
  rest = (edge_row s (edge_table s) j).marks - 2 ^ (office - 1)

  own : (t : List ℕ) → Accepted t → (a b : ℕ) → a < (header_of t).edges → b < (header_of t).edges → (edge_row t (edge_table t) a).key ≡ (edge_row t (edge_table t) b).key → a ≡ b
  own t w = one-row (λ i. (edge_row t (edge_table t) i).key) (header_of t).edges (edges-up t w)

  -- rows of s but for row j, which has what is left of its marks or is not there
  record Removes (e : ℕ) (from marks : ℕ → ℕ) : Type 0 where
    fits : (u : ℕ) → u < e → from u < (header_of s).edges
    others : (i : ℕ) → i < (header_of s).edges → (i ≡ j → ⊥) → (u : ℕ) × (u < e) × (from u ≡ i) × (marks u ≡ (edge_row s (edge_table s) i).marks)
    row : ((u : ℕ) × (u < e) × (from u ≡ j) × (marks u ≡ rest)) ⊎ (((u : ℕ) → u < e → from u ≡ j → ⊥) × (rest ≡ 0))

  module _ (t : List ℕ) (e : ℕ) (from marks : ℕ → ℕ) (R : Removes e from marks) (F : EdgesFrom s e from marks t) where
    t-key : (u : ℕ) → u < e → (edge_row t (edge_table t) u).key ≡ (edge_row s (edge_table s) (from u)).key
    t-key u l = ap (λ (r : Row). r.key) (F.edges.1 u l)

    is_removed : IsRemoved s office j t
    unfolding tables_of
    is_removed =
        record {
          accepted = F.accepted;
          offices = F.offices;
          nodes = λ key. rw (F.nodes.0, rows_alike _ (node_row s) (node_row t) F.nodes.1) refl;
          row = ⊎_elim here gone R.row;
          others = λ key n. marks-twin _ _ (edge_row s (edge_table s)) (edge_row t (edge_table t)) (own s v) (own t F.accepted) key (over key n) (back key);
        }
      where
        over : (key : Key) → (key ≡ (edge_row s (edge_table s) j).key → ⊥) → (i : ℕ) → i < (header_of s).edges → (edge_row s (edge_table s) i).key ≡ key → (u : ℕ) × (u < (header_of t).edges) × (edge_row t (edge_table t) u ≡ edge_row s (edge_table s) i)
        over key n i l q =
            let o = R.others i l (λ z. n (sym q ∙ ap (λ (x : ℕ). (edge_row s (edge_table s) x).key) z)) in
            let z = ap (λ (x : ℕ). (edge_row s (edge_table s) x).key) o.2 in
            let w = o.3 in
            (o.0, omega (arith, o.1, F.edges.0), F.edges.1 o.0 o.1 ∙ (λ x. record { key = z x; marks = w x }))

        back : (key : Key) (u : ℕ) → u < (header_of t).edges → (edge_row t (edge_table t) u).key ≡ key → RowAt (header_of s).edges (edge_row s (edge_table s)) key
        back key u l q = let d : u < e = omega (arith, F.edges.0) in record { row = from u; inside = R.fits u d; names = sym (t-key u d) ∙ q }

        here : (u : ℕ) × (u < e) × (from u ≡ j) × (marks u ≡ rest) → marks_at (rows_of (header_of t).edges (edge_row t (edge_table t))) (edge_row s (edge_table s) j).key ≡ rest
        here o =
            marks-named _ (edge_row t (edge_table t)) (own t F.accepted) _ o.0 (omega (arith, o.1, F.edges.0)) (t-key o.0 o.1 ∙ ap (λ (x : ℕ). (edge_row s (edge_table s) x).key) o.2)
            ∙ ap (λ (r : Row). r.marks) (F.edges.1 o.0 o.1) ∙ o.3

        gone : ((u : ℕ) → u < e → from u ≡ j → ⊥) × (rest ≡ 0) → marks_at (rows_of (header_of t).edges (edge_row t (edge_table t))) (edge_row s (edge_table s) j).key ≡ rest
        gone o =
            marks-none _ (edge_row t (edge_table t)) _
            (λ u l q. let d : u < e = omega (arith, F.edges.0) in o.0 u d (own s v (from u) j (R.fits u d) inside (sym (t-key u d) ∙ q)))
            ∙ sym o.1

  -- the row keeps other marks
  abbrev less_marks : ℕ → ℕ
  less_marks u = cond (eqb u j) rest (edge_row s (edge_table s) u).marks

  less-here : less_marks j ≡ rest
  less-here = ap (λ (b : Bool). cond b rest (edge_row s (edge_table s) j).marks) (eq-eqb j j refl)

  less-else : (u : ℕ) → (u ≡ j → ⊥) → less_marks u ≡ (edge_row s (edge_table s) u).marks
  less-else u n = ap (λ (b : Bool). cond b rest (edge_row s (edge_table s) u).marks) (ne_eqb u j n)

  keeps-row : 0 < rest → (t : List ℕ) × IsRemoved s office j t
  unfolding edge_row
  keeps-row l =
      let T = fewer-rows s v (header_of s).edges (λ u. u) less_marks (omega arith) (λ u d. d) (λ u d. omega arith) some less in (
        T.0,
        is_removed T.0 (header_of s).edges (λ u. u) less_marks
            (record { fits = λ u d. d; others = λ i d n. (i, d, refl, less-else i n); row = inl (j, inside, refl, less-here) }) T.1,
      )
    where
      some : (u : ℕ) → u < (header_of s).edges → 0 < less_marks u
      some u d = ⊎_elim (λ q. omega (arith, ap less_marks q, less-here)) (λ n. omega (arith, less-else u n, (v.edges.fit u d).marks.some)) (same-number-or u j)

      less : (u : ℕ) → u < (header_of s).edges → within (less_marks u) (edge_of s u).offices ≡ true
      less u d = ⊎_elim (λ q. subst (λ (x : ℕ). within (less_marks x) (edge_of s x).offices ≡ true) (sym q) (ap (λ (m : ℕ). within m (edge_of s j).offices) less-here ∙ less-within office _ bears)) (λ n. ap (λ (m : ℕ). within m (edge_of s u).offices) (less-else u n) ∙ within-own (edge_of s u).offices) (same-number-or u j)

  -- the row goes, and those behind it move up
  abbrev past : ℕ → ℕ
  past u = cond (ltb u j) u (u + 1)

  past-low : (u : ℕ) → u < j → past u ≡ u
  past-low u l = ap (λ (b : Bool). cond b u (u + 1)) (lt-ltb u j l)

  past-high : (u : ℕ) → j ≤ u → past u ≡ u + 1
  past-high u l = ap (λ (b : Bool). cond b u (u + 1)) (le-ltb u j l)

  drops-row : rest ≡ 0 → (t : List ℕ) × IsRemoved s office j t
  unfolding edge_row
  drops-row z =
      let T = fewer-rows s v ((header_of s).edges - 1) past (λ u. (edge_row s (edge_table s) (past u)).marks) (omega arith) fits up (λ u l. (v.edges.fit (past u) (fits u l)).marks.some) (λ u l. within-own (edge_of s (past u)).offices) in
      (T.0, is_removed T.0 ((header_of s).edges - 1) past (λ u. (edge_row s (edge_table s) (past u)).marks) (record { fits = fits; others = others; row = inr (never, z) }) T.1)
    where
      fits : (u : ℕ) → u < (header_of s).edges - 1 → past u < (header_of s).edges
      fits u l = go (dec_lt u j)
        where
          go : Dec (u < j) → past u < (header_of s).edges
          go (yes d) = omega (arith, past-low u d)
          go (no d) = omega (arith, past-high u (omega arith))

      up : (u : ℕ) → u + 1 < (header_of s).edges - 1 → past u < past (u + 1)
      up u l = go (dec_lt u j) (dec_lt (u + 1) j)
        where
          go : Dec (u < j) → Dec (u + 1 < j) → past u < past (u + 1)
          go (yes d) (yes h) = omega (arith, past-low u d, past-low (u + 1) h)
          go (yes d) (no h) = omega (arith, past-low u d, past-high (u + 1) (omega arith))
          go (no d) h = omega (arith, past-high u (omega arith), past-high (u + 1) (omega arith))

      others : (i : ℕ) → i < (header_of s).edges → (i ≡ j → ⊥) → (u : ℕ) × (u < (header_of s).edges - 1) × (past u ≡ i) × ((edge_row s (edge_table s) (past u)).marks ≡ (edge_row s (edge_table s) i).marks)
      others i l n = go (dec_lt i j)
        where
          at : (u : ℕ) → u < (header_of s).edges - 1 → past u ≡ i → (u : ℕ) × (u < (header_of s).edges - 1) × (past u ≡ i) × ((edge_row s (edge_table s) (past u)).marks ≡ (edge_row s (edge_table s) i).marks)
          at u h q = (u, h, q, ap (λ (x : ℕ). (edge_row s (edge_table s) x).marks) q)

          go : Dec (i < j) → (u : ℕ) × (u < (header_of s).edges - 1) × (past u ≡ i) × ((edge_row s (edge_table s) (past u)).marks ≡ (edge_row s (edge_table s) i).marks)
          go (yes d) = at i (omega arith) (past-low i d)
          go (no d) = at (i - 1) (omega arith) (past-high (i - 1) (omega arith) ∙ omega arith)

      never : (u : ℕ) → u < (header_of s).edges - 1 → past u ≡ j → ⊥
      never u l q = go (dec_lt u j)
        where
          go : Dec (u < j) → ⊥
          go (yes d) = omega (arith, past-low u d)
          go (no d) = omega (arith, past-high u (omega arith))

  pub removed-sheet : (t : List ℕ) × IsRemoved s office j t
  removed-sheet = go (dec_lt 0 rest)
    where
      go : Dec (0 < rest) → (t : List ℕ) × IsRemoved s office j t
      go (yes l) = keeps-row l
      go (no l) = drops-row (omega arith)

-- ---- there is no other

module _ (s t : List ℕ) (office j : ℕ) (x : IsRemoved s office j t) where
  abbrev gone : Key
  gone = (edge_row s (edge_table s) j).key

  pub removed-one : (t' : List ℕ) → IsRemoved s office j t' → t ≡ t'
  removed-one t' y =
      sheet-alike t t' x.accepted y.accepted (x.offices ∙ sym y.offices)
      (λ i l. marks-held t t' x.accepted y.accepted (suc i) (suc i) (λ k. ap (λ (m : ℕ). marked m (suc i)) (x.nodes k ∙ sym (y.nodes k))) (λ k. ap (λ (m : ℕ). marked m (suc i)) (edges k)))
    where
      edges : (k : Key) → marks_at (tables_of t).edges k ≡ marks_at (tables_of t').edges k
      edges k = same_or k gone _ (λ q. ap (marks_at (tables_of t).edges) q ∙ x.row ∙ sym y.row ∙ ap (marks_at (tables_of t').edges) (sym q)) (λ n. x.others k n ∙ sym (y.others k n))

  -- ---- what is seen of it

  module _ (v : Accepted s) (inside : j < (header_of s).edges) (bears : marked (edge_row s (edge_table s) j).marks office ≡ true) where
    row-marks : marks_at (tables_of s).edges gone ≡ (edge_row s (edge_table s) j).marks
    unfolding tables_of
    row-marks = marks-named _ (edge_row s (edge_table s)) (one-row (λ i. (edge_row s (edge_table s) i).key) (header_of s).edges (edges-up s v)) gone j inside refl

    -- every other office has the marks that it had
    others-marked : (o : ℕ) → (o ≡ office → ⊥) → (k : Key) → marked (marks_at (tables_of t).edges k) o ≡ marked (marks_at (tables_of s).edges k) o
    others-marked o n k = same_or k gone _ here (λ m. ap (λ (y : ℕ). marked y o) (x.others k m))
      where
        here : k ≡ gone → marked (marks_at (tables_of t).edges k) o ≡ marked (marks_at (tables_of s).edges k) o
        here q =
            ap (λ (y : Key). marked (marks_at (tables_of t).edges y) o) q ∙ ap (λ (y : ℕ). marked y o) x.row ∙ less-others office _ o bears n
            ∙ ap (λ (y : ℕ). marked y o) (sym row-marks) ∙ ap (λ (y : Key). marked (marks_at (tables_of s).edges y) o) (sym q)

    pub others-see : (o : ℕ) → (o ≡ office → ⊥) → Same (seen_at t o) (seen_at s o)
    others-see o n = held-seen _ _ _ _ (marks-held t s x.accepted v o o (λ k. ap (λ (m : ℕ). marked m o) (x.nodes k)) (others-marked o n))

    -- where no other office marks the row, no row names its relation any more: a row has marks
    pub goes-with-last : (edge_row s (edge_table s) j).marks ≡ 2 ^ (office - 1) → (u : ℕ) → u < (header_of t).edges → (edge_row t (edge_table t) u).key ≡ gone → ⊥
    unfolding tables_of edge_row
    goes-with-last last u l q =
        let here = marks-named _ (edge_row t (edge_table t)) (one-row (λ i. (edge_row t (edge_table t) i).key) (header_of t).edges (edges-up t x.accepted)) gone u l q in
        omega (arith, last, x.row, here, (x.accepted.edges.fit u l).marks.some)

    -- this one holds the row no more ..
    pub own-gone : (held_at t office).edge gone ≡ false
    own-gone = edge-marked t x.accepted office gone ∙ ap (λ (m : ℕ). marked m office) x.row ∙ less-own office _ bears

    -- .. and sees all identities, and all relations but for one at most
    pub own-nodes : (k : Key) → (seen_at t office).node k ≡ (seen_at s office).node k
    own-nodes k = node-marked t x.accepted office k ∙ ap (λ (m : ℕ). marked m office) (x.nodes k) ∙ sym (node-marked s v office k)

    pub own-lacks : LacksAtMost (seen_at s office) gone (seen_at t office)
    own-lacks =
        record {
          no_more = λ r e. same_or r gone _ (λ q. edge-marked s v office r ∙ ap (λ (y : Key). marked (marks_at (tables_of s).edges y) office) q ∙ ap (λ (m : ℕ). marked m office) row-marks ∙ bears) (λ n. sym (same r n) ∙ e);
          all_others = λ r n e. same r n ∙ e;
        }
      where
        same : (r : Key) → (r ≡ gone → ⊥) → (seen_at t office).edge r ≡ (seen_at s office).edge r
        same r n = edge-marked t x.accepted office r ∙ ap (λ (m : ℕ). marked m office) (x.others r n) ∙ sym (edge-marked s v office r)

    -- ---- so no answer changes

    pub removal-spares : Redundant (seen_at s office) gone → (o : ℕ) (side : Side) (p d f : ℕ) → HasPath (seen_at s o) side p d f ↔ HasPath (seen_at t o) side p d f
    removal-spares R o side p d f = ⊎_elim own other (same-number-or o office)
      where
        own : o ≡ office → HasPath (seen_at s o) side p d f ↔ HasPath (seen_at t o) side p d f
        own q = subst (λ (y : ℕ). HasPath (seen_at s y) side p d f ↔ HasPath (seen_at t y) side p d f) (sym q) (path-spared _ _ gone own-lacks R side p d f)

        other : (o ≡ office → ⊥) → HasPath (seen_at s o) side p d f ↔ HasPath (seen_at t o) side p d f
        other n = let e = same_view _ _ (others-see o n) in (λ h. subst (λ (g : View). HasPath g side p d f) (sym e) h, λ h. subst (λ (g : View). HasPath g side p d f) e h)
