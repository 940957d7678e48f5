-- Question 4: what the tests of a lent list of words decide.
-- Assumes nothing.
use Prim.Native.Nat.{ℕ, zero, suc, ◌+◌, ◌-◌, ◌*◌, ◌/◌, ◌%◌, ◌<◌, ◌≤◌}
use native.Mathlib.Omega.{arith}
use mathlib.Core.Path.{◌≡◌, refl, sym, ap, subst, ◌∙◌}
use mathlib.Core.Bool.{Bool, true, false, not, ◌&&◌, ◌||◌, beq, false≢true}
use mathlib.Core.List.{List, [], ◌∷◌, ◌++◌}
use mathlib.Core.Logic.{⊎_elim}
use lib.Dec.{ltb, eqb, eqb-zero-suc, eqb-suc-zero}
use lib.ListN.{length, get_or, drop}
use borrow.Author.Tests.{ltb-true, ltb-false, eqb-true, eqb-false, eq-eqb}
use Rattle.std.specs.Prelude.{Result, Ok, Err}
use Rattle.tables.specs.Count.{number_of}
use Rattle.tables.proofs.Counts.{has-row, has_some}
use Rattle.tables.specs.Key.{Key, identity, relation, same_key}
use Rattle.tables.specs.Office.{View}
use Rattle.sheet.specs.declared.Cells.{Cells}
use Rattle.sheet.specs.declared.Header.{Header}
use Rattle.sheet.specs.declared.Half.TheVariants.{Edges}
use Rattle.sheet.specs.declared.Edge.{Edge}
use Rattle.sheet.specs.Rows.{header_of, edge_at, edge_of, edge_key, node_key_at, row_key, edge_table}
use Rattle.sheet.specs.Accepted.{RowsRise, Accepted, WellFormed}
use Rattle.sheet.specs.Found.{FoundAt}
use Rattle.sheet.specs.Named.{node_row}
use Rattle.sheet.specs.Seats.{counts_at, seen_from}
use Rattle.sheet.proofs.Accepting.{or-false}
use Rattle.sheet.proofs.Naming.{node_seen, edge-seen, ends-seen, rows_named, named-rows, row_seen}
use Rattle.sheet.proofs.Places.{stands-there, formed-rises}
use Rattle.paths.specs.Leads.{among, leads}
use Rattle.paths.proofs.Tests.{both, or_cases}
use Rattle.meaning.specs.Paths.{Side, right_kind, category, deed, member, applies, step, carries, path, pairs, spell, firsts, is_path, contained}
use Rattle.meaning.proofs.Spelling.{spelt, spell-long}
use Rattle.claim.specs.Listed.{every_second, has_second, framed, way_from, goes_on}
use mir.Val.{bool_byte}
use Rattle.sheet.specs.declared.formed.Sheet.{Sheet}
use Rattle.sheet.specs.declared.Seat.{Seat}
use Rattle.question.specs.declared.Question.{Question}
use Rattle.question.specs.declared.asks.Asks.{Asks}
use Rattle.question.specs.declared.office.OfficeSheet.{OfficeSheet}
use Rattle.question.specs.Sides.{side}
use Rattle.question.specs.Asked.{side_of, seat_for, asked, bad_office}
use Rattle.question.specs.Checked.{seen_at_seat, AtSeat}
use Rattle.sheet.proofs.Forming.{words_of}
use Rattle.sheet.proofs.Reading.{row_under}
use Rattle.question.proofs.Known.{side-grant, side-ban}

-- ---- what a search tells: the row that has the key, or that none has it

module _ (f : ℕ → Key) (n : ℕ) (up : RowsRise f n) (k : Key) (i : ℕ) where
  row-there : FoundAt f n k (Ok i) → (i < n) × (f i ≡ k)
  row-there x = let (j, l, d) = has_some n f k (sym x.told) in stands-there f n up k i j x.place l d

  row-nowhere : FoundAt f n k (Err i) → (j : ℕ) → j < n → f j ≡ k → ⊥
  row-nowhere x j l d = false≢true (x.told ∙ has-row n f k j l d)

-- the words' own edge table
pub own-edges : (s t : List ℕ) (h : Header) (seat : Seat) → AtSeat s t h seat → WellFormed s (edge_table s) h
own-edges s t h seat o = subst (λ (x : List ℕ). WellFormed s x h) o.formed.table o.formed

-- ---- a relation is seen exactly if the edge row between the rows of its ends stands and counts

module _ (o : OfficeSheet) where
  abbrev s : List ℕ
  s = o.sheet.words.now

  acc : Accepted s
  acc = words_of s o.sheet.edges.now o.sheet.header o.sheet.formed

  -- what the searches tell
  abbrev InNodes : Key → Result ℕ ℕ → Type 0
  InNodes k r = FoundAt (node_key_at s) o.sheet.header.nodes k r

  abbrev InEdges : Key → Result ℕ ℕ → Type 0
  InEdges k r = FoundAt (λ j. edge_key (edge_of s j)) o.sheet.header.edges k r

  node-there : (k : Key) (i : ℕ) → InNodes k (Ok i) → (i < (header_of s).nodes) × (node_key_at s i ≡ k)
  node-there k i f =
      let x = row-there (node_key_at s) o.sheet.header.nodes o.sheet.formed.nodes.rise k i f in
      (subst (λ (y : Header). i < y.nodes) o.sheet.formed.head x.0, x.1)

  edges-up-to : RowsRise (λ j. edge_key (edge_of s j)) o.sheet.header.edges
  edges-up-to = formed-rises Edges s o.sheet.edges.now o.sheet.header o.sheet.formed

  pub edge-there : (k : Key) (i : ℕ) → InEdges k (Ok i) → (i < o.sheet.header.edges) × (edge_key (edge_of s i) ≡ k)
  edge-there k i f = row-there (λ j. edge_key (edge_of s j)) o.sheet.header.edges edges-up-to k i f

  -- an identity in no node row is seen nowhere
  no_node : (k : Key) (i : ℕ) → InNodes k (Err i) → (seen_at_seat o).node k ≡ true → ⊥
  unfolding node_row
  no_node k i f n =
      let r = node_seen s acc o.seat.office k n in
      row-nowhere (node_key_at s) o.sheet.header.nodes o.sheet.formed.nodes.rise k i f r.row (subst (λ (y : Header). r.row < y.nodes) (sym o.sheet.formed.head) r.inside) r.names

  module _ (kind : ℕ) (a b : Cells) where
    abbrev seen : Bool
    seen = (seen_at_seat o).edge (relation kind (row_key a) (row_key b))

    none : (seen ≡ true → ⊥) → false ≡ seen
    none n = go seen refl
      where
        go : (x : Bool) → seen ≡ x → false ≡ seen
        go false e = sym e
        go true e = absurd (n e)

    ends : seen ≡ true → ((seen_at_seat o).node (row_key a) ≡ true) × ((seen_at_seat o).node (row_key b) ≡ true)
    ends e = let x = ends-seen s acc o.seat.office kind _ _ _ _ _ _ e in (x.0, x.1)

    pub not-from : (i : ℕ) → InNodes (row_key a) (Err i) → false ≡ seen
    not-from i f = none (λ g. no_node (row_key a) i f (ends g).0)

    pub not-to : (i : ℕ) → InNodes (row_key b) (Err i) → false ≡ seen
    not-to i f = none (λ g. no_node (row_key b) i f (ends g).1)

    -- both ends were found: the relation's row is the one between their rows
    module _ (p q : ℕ) (f : InNodes (row_key a) (Ok p)) (g : InNodes (row_key b) (Ok q)) (k : Key) (named : k ≡ identity kind p q) (e : ℕ) where
      by-ends : relation kind (node_key_at s p) (node_key_at s q) ≡ relation kind (row_key a) (row_key b)
      by-ends = let u = (node-there (row_key a) p f).1 in let v = (node-there (row_key b) q g).1 in λ i. relation kind (u i) (v i)

      pub not-edge : InEdges k (Err e) → false ≡ seen
      not-edge x =
          none
          (λ y.
          let r = edge-seen s acc o.seat.office _ y in
          let z = named-rows s acc r.row kind p q r.inside (node-there (row_key a) p f).0 (node-there (row_key b) q g).0 (r.names ∙ sym by-ends) in
          row-nowhere (λ j. edge_key (edge_of s j)) o.sheet.header.edges edges-up-to k e x r.row (subst (λ (y : Header). r.row < y.edges) (sym o.sheet.formed.head) r.inside) (z ∙ sym named))

      pub edge-counts : InEdges k (Ok e) → (d : Edge) (r : Bool) → d ≡ edge_at o.sheet.header o.sheet.edges.now e → r ≡ counts_at o.seat d → r ≡ seen
      edge-counts x d r m z =
          let w = edge-there k e x in
          let n = rows_named s e kind p q (w.1 ∙ named) ∙ by-ends in
          let l = subst (λ (y : Header). e < y.edges) o.sheet.formed.head w.0 in
          let own : d ≡ edge_of s e = m ∙ row_under s o.sheet.edges.now o.sheet.header o.sheet.formed e ∙ ap (λ (y : List ℕ). edge_at (header_of s) y e) o.sheet.formed.table in
          z ∙ ap (λ (y : Edge). counts_at o.seat y) own ∙ sym (row_seen s acc o.seat.office e l) ∙ ap (λ (y : Key). (seen_at_seat o).edge y) n

-- ---- relations between named identities

module _ (g : View) where
  pub relation-named : (kind : ℕ) (a b : Cells) (x y : Key) (r : Bool) → row_key a ≡ x → row_key b ≡ y → r ≡ g.edge (relation kind (row_key a) (row_key b)) → r ≡ g.edge (relation kind x y)
  relation-named kind a b x y r e f q = q ∙ ap (λ (z : Key). g.edge (relation kind z (row_key b))) e ∙ ap (λ (z : Key). g.edge (relation kind x z)) f

  pub step-grant : (kind c d : ℕ) (r : Bool) → kind ≡ 0 → r ≡ contained g c d → r ≡ step g (side_of kind) c d
  step-grant kind c d r e q = q ∙ ap (λ (z : Side). step g z c d) (sym (side-grant kind e))

  pub step-ban : (kind c d : ℕ) (r : Bool) → (kind ≡ 0 → ⊥) → r ≡ contained g d c → r ≡ step g (side_of kind) c d
  step-ban kind c d r n q = q ∙ ap (λ (z : Side). step g z c d) (sym (side-ban kind n))

  pub carries-by : (side : Side) (kind d v f c : ℕ) (x y : Bool) → kind ≡ right_kind side → x ≡ g.edge (relation kind (category c) (deed d v)) → y ≡ applies g d v f → (x && y) ≡ carries g side d v f c
  carries-by side kind d v f c x y e p q = rw (p, q, e) refl

-- ---- every second word

module _ (ws : List ℕ) (c : ℕ) (same : Bool) where
  second-turn : (at left : ℕ) → 0 < left → has_second ws c same at left ≡ (beq (eqb c (get_or ws at 0)) same || has_second ws c same (at + 2) (left - 1))
  second-turn at zero l = absurd (omega (arith, l))
  second-turn at (suc left) l =
      let e : at + 2 ≡ suc (suc at) = omega arith in
      let d : suc left - 1 ≡ left = omega arith in
      rw (e, d) refl

  pub second-by : (at left : ℕ) (b : Bool) → 0 < left → beq (eqb c (get_or ws at 0)) same ≡ b → has_second ws c same at left ≡ (b || has_second ws c same (at + 2) (left - 1))
  second-by at left b l e = second-turn at left l ∙ ap (λ (x : Bool). x || has_second ws c same (at + 2) (left - 1)) e

  pub second_none : (at left : ℕ) → left ≤ 0 → has_second ws c same at left ≡ false
  second_none at left l = let e : left ≡ 0 = omega arith in rw e refl

  -- .. k words passed, of m
  pub second_next : (from m k : ℕ) (b : Bool) → k < m → beq (eqb c (get_or ws (from + 2 * k) 0)) same ≡ b
      → has_second ws c same (from + 2 * k) (m - k) ≡ (b || has_second ws c same (from + 2 * (k + 1)) (m - (k + 1)))
  second_next from m k b l e =
      let a : from + 2 * k + 2 ≡ from + 2 * (k + 1) = omega arith in
      let d : m - k - 1 ≡ m - (k + 1) = omega arith in
      rw (a, d) at (second-by (from + 2 * k) (m - k) b (omega arith) e)

same_true : (b : Bool) → beq b true ≡ b
same_true true = refl
same_true false = refl

second-among : (ws : List ℕ) (c at m : ℕ) → among c (every_second ws at m) ≡ has_second ws c true at m
second-among ws c at zero = refl
second-among ws c at (suc m) = rw (same_true (eqb c (get_or ws at 0)), second-among ws c (suc (suc at)) m) refl

-- every second word is 0, m of them from a place on
abbrev plain_from : List ℕ → ℕ → ℕ → Bool
plain_from ws at m = not (has_second ws 0 false at m)

plain-first : (y : ℕ) (b : Bool) → not (beq (eqb 0 y) false || b) ≡ (eqb y 0 && not b)
plain-first zero b = refl
plain-first (suc y) b = rw (eqb-zero-suc y, eqb-suc-zero y) refl

plain-shift : (x : ℕ) (ws : List ℕ) (at m : ℕ) → has_second (x ∷ ws) 0 false (suc at) m ≡ has_second ws 0 false at m
plain-shift x ws at zero = refl
plain-shift x ws at (suc m) = ap (λ (b : Bool). beq (eqb 0 (get_or ws at 0)) false || b) (plain-shift x ws (suc (suc at)) m)

second-shift : (x : ℕ) (ws : List ℕ) (at m : ℕ) → every_second (x ∷ ws) (suc at) m ≡ every_second ws at m
second-shift x ws at zero = refl
second-shift x ws at (suc m) = ap (λ (l : List ℕ). get_or ws at 0 ∷ l) (second-shift x ws (suc (suc at)) m)

firsts-second : (m : ℕ) (ws : List ℕ) → 2 * m ≤ length ws → firsts m ws ≡ every_second ws 0 m
firsts-second zero ws l = refl
firsts-second (suc m) [] l = absurd (omega (arith, l))
firsts-second (suc m) (x ∷ []) l = absurd (omega (arith, l))
firsts-second (suc m) (x ∷ y ∷ ws) l =
    ap (λ (r : List ℕ). x ∷ r) (firsts-second m ws (omega (arith, l)) ∙ sym (second-shift y ws 0 m) ∙ sym (second-shift x (y ∷ ws) 1 m))

-- ---- tests

and_assoc : (a b c : Bool) → (a && (b && c)) ≡ ((a && b) && c)
and_assoc true b c = refl
and_assoc false b c = refl

and-with-true : (a : Bool) → (a && true) ≡ a
and-with-true true = refl
and-with-true false = refl

and-swap : (a b : Bool) → (a && b) ≡ (b && a)
and-swap true true = refl
and-swap true false = refl
and-swap false true = refl
and-swap false false = refl

third_last : (a b c d : Bool) → (a && (b && (c && d))) ≡ ((a && (b && d)) && c)
third_last true true c d = and-swap c d
third_last true false c d = refl
third_last false b c d = refl

-- ---- the words behind the person's: the categories', the deed's and the folio's

rest-same : (m n : ℕ) (ws : List ℕ) (d f : ℕ) → n ≡ 2 * m → length ws ≡ 4 + n
    → same_key ws (pairs (firsts m ws) ++ (d ∷ get_or ws (suc n) 0 ∷ f ∷ 0 ∷ [])) ≡ (plain_from ws 1 m && (eqb (get_or ws n 0) d && (eqb (get_or ws (suc (suc n)) 0) f && eqb (get_or ws (suc (suc (suc n))) 0) 0)))
rest-same zero (suc n) ws d f q e = absurd (omega (arith, q))
rest-same zero zero [] d f q e = absurd (omega (arith, e))
rest-same zero zero (a ∷ []) d f q e = absurd (omega (arith, e))
rest-same zero zero (a ∷ b ∷ []) d f q e = absurd (omega (arith, e))
rest-same zero zero (a ∷ b ∷ c ∷ []) d f q e = absurd (omega (arith, e))
rest-same zero zero (a ∷ b ∷ c ∷ z ∷ []) d f q e = rw (eq-eqb b b refl, and-with-true (eqb z 0)) refl
rest-same zero zero (a ∷ b ∷ c ∷ z ∷ x ∷ ws) d f q e = absurd (omega (arith, e))
rest-same (suc m) zero ws d f q e = absurd (omega (arith, q))
rest-same (suc m) (suc zero) ws d f q e = absurd (omega (arith, q))
rest-same (suc m) (suc (suc n)) [] d f q e = absurd (omega (arith, e))
rest-same (suc m) (suc (suc n)) (x ∷ []) d f q e = absurd (omega (arith, e))
rest-same (suc m) (suc (suc n)) (x ∷ y ∷ ws) d f q e =
    rw (eq-eqb x x refl, plain-first y (has_second (x ∷ y ∷ ws) 0 false 3 m), plain-shift x (y ∷ ws) 2 m, plain-shift y ws 1 m, rest-same m n ws d f (omega (arith, q)) (omega (arith, e)))
    (and_assoc (eqb y 0) (plain_from ws 1 m) _)

module _ (g : View) (side : Side) (p d f : ℕ) where
  is-by : (ws : List ℕ) (n v : ℕ) → (length ws - 6) / 2 ≡ n → get_or ws (length ws - 3) 0 ≡ v
      → is_path g side p d f ws ≡ (same_key ws (spell p (firsts n (drop 2 ws)) d v f) && path g side p d f (firsts n (drop 2 ws)) v)
  unfolding is_path
  is-by ws n v e u = rw (e, u) refl

  front_same : (x y : ℕ) (ws : List ℕ) (m n : ℕ) → n ≡ 2 * m → length ws ≡ 6 + 2 * m
      → same_key (x ∷ y ∷ ws) (spell p (firsts (suc m) ws) d (get_or ws (suc (suc (suc n))) 0) f) ≡ (framed (x ∷ y ∷ ws) m p d f && plain_from (x ∷ y ∷ ws) 3 (suc m))
  unfolding spell framed
  front_same x y ws m n q e =
      let four : 4 + 2 * m ≡ suc (suc (suc (suc n))) = omega arith in
      let six : 6 + 2 * m ≡ suc (suc (suc (suc (suc (suc n))))) = omega arith in
      let seven : 7 + 2 * m ≡ suc (suc (suc (suc (suc (suc (suc n)))))) = omega arith in
      rw (four, six, seven)
      (ap (λ (b : Bool). eqb x p && (eqb y 0 && b)) (rest-same (suc m) (suc (suc n)) ws d f (omega arith) (omega arith))
      ∙ third_last (eqb x p) (eqb y 0) (plain_from ws 1 (suc m)) _
      ∙ ap (λ (b : Bool). (eqb x p && (eqb y 0 && (eqb (get_or ws (suc (suc n)) 0) d && (eqb (get_or ws (suc (suc (suc (suc n)))) 0) f && eqb (get_or ws (suc (suc (suc (suc (suc n))))) 0) 0)))) && b)
      (ap not (sym (plain-shift y ws 1 (suc m)) ∙ sym (plain-shift x (y ∷ ws) 2 (suc m)))))

  back-same : (x y : ℕ) (ws : List ℕ) (m v : ℕ) → length ws ≡ 6 + 2 * m → path g side p d f (firsts (suc m) ws) v ≡ (member g p (get_or ws 0 0) && way_from g side d v f (x ∷ y ∷ ws) 2 m)
  unfolding path way_from
  back-same x y ws m v e =
      ap (λ (l : List ℕ). path g side p d f l v) (firsts-second (suc m) ws (omega (arith, e)))
      ∙ ap (λ (r : List ℕ). member g p (get_or ws 0 0) && leads (step g side) (carries g side d v f) (get_or ws 0 0) r) (sym (second-shift y ws 2 m) ∙ sym (second-shift x (y ∷ ws) 3 m))

  -- words of the length of a path are one exactly if the tests pass
  pub path-law : (ws : List ℕ) (m : ℕ) → length ws ≡ 8 + 2 * m
      → is_path g side p d f ws ≡ ((framed ws m p d f && plain_from ws 3 (suc m)) && (member g p (get_or ws 2 0) && way_from g side d (get_or ws (5 + 2 * m) 0) f ws 2 m))
  path-law [] m e = absurd (omega (arith, e))
  path-law (x ∷ []) m e = absurd (omega (arith, e))
  path-law (x ∷ y ∷ ws) m e =
      let l : length ws ≡ 6 + 2 * m = omega (arith, e) in
      let n : length (x ∷ y ∷ ws) - 3 ≡ suc (suc (suc (suc (suc (2 * m))))) = omega (arith, e) in
      let five : 5 + 2 * m ≡ suc (suc (suc (suc (suc (2 * m))))) = omega arith in
      rw five
      (is-by (x ∷ y ∷ ws) (suc m) (get_or ws (suc (suc (suc (2 * m)))) 0) (omega (arith, e)) (ap (λ (i : ℕ). get_or (x ∷ y ∷ ws) i 0) n)
      ∙ ap (λ (b : Bool). b && path g side p d f (firsts (suc m) ws) (get_or ws (suc (suc (suc (2 * m)))) 0)) (front_same x y ws m (2 * m) refl l)
      ∙ ap (λ (b : Bool). (framed (x ∷ y ∷ ws) m p d f && plain_from (x ∷ y ∷ ws) 3 (suc m)) && b) (back-same x y ws m (get_or ws (suc (suc (suc (2 * m)))) 0) l))

  -- words of another length are none
  pub path-long : (ws : List ℕ) → ((m : ℕ) → length ws ≡ 8 + 2 * m → ⊥) → false ≡ is_path g side p d f ws
  unfolding path
  path-long ws n = go (is_path g side p d f ws) refl
    where
      long : (cs : List ℕ) (v : ℕ) → ws ≡ spell p cs d v f → path g side p d f cs v ≡ true → ⊥
      long [] v e q = false≢true q
      long (c ∷ cs) v e q = n (length cs) (ap length e ∙ spell-long p (c ∷ cs) d v f ∙ omega arith)

      go : (b : Bool) → is_path g side p d f ws ≡ b → false ≡ is_path g side p d f ws
      go false e = sym e
      go true e = let s = spelt g side p d f ws e in absurd (long s.categories s.variant s.words s.leads-on)

-- ---- the way by the categories, tried from its end

module _ (g : View) (side : Side) (ws : List ℕ) (at m : ℕ) where
  goes_by : (b : Bool) → has_second ws (get_or ws at 0) true (at + 2) m ≡ b → goes_on g side ws at m ≡ (step g side (get_or ws at 0) (get_or ws (at + 2) 0) && not b)
  unfolding goes_on
  goes_by b e = ap (λ (x : Bool). step g side (get_or ws at 0) (get_or ws (at + 2) 0) && not x) (second-among ws (get_or ws at 0) (at + 2) m ∙ e)

  pub goes-again : has_second ws (get_or ws at 0) true (at + 2) m ≡ true → false ≡ goes_on g side ws at m
  goes-again e = sym (goes_by true e ∙ and-swap (step g side (get_or ws at 0) (get_or ws (at + 2) 0)) false)

  pub goes-new : (r : Bool) → has_second ws (get_or ws at 0) true (at + 2) m ≡ false → r ≡ step g side (get_or ws at 0) (get_or ws (at + 2) 0) → r ≡ goes_on g side ws at m
  goes-new r e q = q ∙ sym (goes_by false e ∙ and-with-true (step g side (get_or ws at 0) (get_or ws (at + 2) 0)))

module _ (g : View) (side : Side) (d v f : ℕ) (ws : List ℕ) where
  pub way_end : (at : ℕ) → way_from g side d v f ws at 0 ≡ carries g side d v f (get_or ws at 0)
  unfolding way_from leads
  way_end at = refl

  way-more : (at n : ℕ) → way_from g side d v f ws at (suc n) ≡ ((step g side (get_or ws at 0) (get_or ws (suc (suc at)) 0) && not (among (get_or ws at 0) (every_second ws (suc (suc at)) (suc n)))) && way_from g side d v f ws (suc (suc at)) n)
  unfolding way_from leads
  way-more at n = and_assoc (step g side (get_or ws at 0) (get_or ws (suc (suc at)) 0)) _ _

  pub way-turn : (at to n : ℕ) → to ≡ at + 2 → way_from g side d v f ws at (n + 1) ≡ (goes_on g side ws at (n + 1) && way_from g side d v f ws to n)
  unfolding goes_on
  way-turn at to n e =
      let a : at + 2 ≡ suc (suc at) = omega arith in
      let b : n + 1 ≡ suc n = omega arith in
      rw (e, a, b) (way-more at n)

  -- a way that fails from a place on fails from each place before it
  pub way-fails : (i at to n m : ℕ) → to ≡ 2 * i + at → m ≡ i + n → way_from g side d v f ws to n ≡ false → way_from g side d v f ws at m ≡ false
  way-fails zero at to n m p q e =
      let a : to ≡ at = omega arith in
      let b : m ≡ n = omega arith in
      rw (← a, b) e
  way-fails (suc i) at to n m p q e =
      let b : m ≡ suc (i + n) = omega arith in
      let w = way-fails i (suc (suc at)) to n (i + n) (omega arith) refl e in
      let ahead = step g side (get_or ws at 0) (get_or ws (suc (suc at)) 0) && not (among (get_or ws at 0) (every_second ws (suc (suc at)) (suc (i + n)))) in
      rw b (way-more at (i + n) ∙ ap (λ (b : Bool). ahead && b) w ∙ and-swap ahead false)

  -- the last category, then each one before it, as the code goes
  pub way-first : (m : ℕ) → carries g side d v f (get_or ws (2 + 2 * m) 0) ≡ true → way_from g side d v f ws (2 + 2 * (m - 0)) 0 ≡ true
  way-first m e =
      let z : m - 0 ≡ m = omega arith in
      rw z (way_end (2 + 2 * m) ∙ e)

  pub way-none : (m : ℕ) → carries g side d v f (get_or ws (2 + 2 * m) 0) ≡ false → false ≡ way_from g side d v f ws 2 m
  way-none m e = sym (way-fails m 2 (2 + 2 * m) 0 m (omega arith) (omega arith) (way_end (2 + 2 * m) ∙ e))

  pub way-stops : (m n : ℕ) → n < m → goes_on g side ws (2 * (m - n)) (n + 1) ≡ false → false ≡ way_from g side d v f ws 2 m
  way-stops m n l e =
      let w : way_from g side d v f ws (2 * (m - n)) (n + 1) ≡ false = way-turn (2 * (m - n)) (2 * (m - n) + 2) n refl ∙ ap (λ (b : Bool). b && way_from g side d v f ws (2 * (m - n) + 2) n) e in
      sym (way-fails (m - (n + 1)) 2 (2 * (m - n)) (n + 1) m (omega arith) (omega arith) w)

  pub way_next : (m n : ℕ) → n < m → goes_on g side ws (2 * (m - n)) (n + 1) ≡ true → way_from g side d v f ws (2 + 2 * (m - n)) n ≡ true → way_from g side d v f ws (2 + 2 * (m - (n + 1))) (n + 1) ≡ true
  way_next m n l e w =
      let z : 2 + 2 * (m - (n + 1)) ≡ 2 * (m - n) = omega arith in
      rw z (way-turn (2 * (m - n)) (2 + 2 * (m - n)) n (omega arith) ∙ both e w)

  pub way-done : (m n : ℕ) → n ≤ m → m ≤ n → way_from g side d v f ws (2 + 2 * (m - n)) n ≡ true → true ≡ way_from g side d v f ws 2 m
  way-done m n l h w =
      let a : 2 + 2 * (m - n) ≡ 2 = omega arith in
      let b : n ≡ m = omega arith in
      sym (subst (λ (i : ℕ). way_from g side d v f ws 2 i ≡ true) b (subst (λ (i : ℕ). way_from g side d v f ws i n ≡ true) a w))

-- ---- all tests of a list

pub odd-long : (n : ℕ) → (ltb n 8 || eqb (n % 2) 1) ≡ true → (m : ℕ) → n ≡ 8 + 2 * m → ⊥
odd-long n e m q = ⊎_elim (λ a. let l = ltb-true n 8 a in omega arith) (λ b. let l = eqb-true (n % 2) 1 b in omega arith) (or_cases (ltb n 8) _ e)

pub even-long : (n : ℕ) → (ltb n 8 || eqb (n % 2) 1) ≡ false → n ≡ 8 + 2 * ((n - 8) / 2)
even-long n e =
    let t = or-false (ltb n 8) (eqb (n % 2) 1) e in
    let a = ltb-false n 8 t.0 in
    let b = eqb-false (n % 2) 1 t.1 in
    omega arith

pub long-room : (n : ℕ) → (ltb n 8 || eqb (n % 2) 1) ≡ false → (8 ≤ n) × (3 + 2 * ((n - 8) / 2 + 1) ≤ n) × (2 < n)
long-room n e =
    let a = ltb-false n 8 (or-false (ltb n 8) (eqb (n % 2) 1) e).0 in
    (a, omega arith, omega arith)

module _ (g : View) (side : Side) (p d f : ℕ) (ws : List ℕ) (m : ℕ) (l : length ws ≡ 8 + 2 * m) where
  abbrev plain_ends : Bool
  plain_ends = plain_from ws 3 (m + 1)

  abbrev assigned : Bool
  assigned = member g p (get_or ws 2 0)

  abbrev leads_on : Bool
  leads_on = way_from g side d (get_or ws (5 + 2 * m) 0) f ws 2 m

  law : is_path g side p d f ws ≡ ((framed ws m p d f && plain_ends) && (assigned && leads_on))
  law = let e : m + 1 ≡ suc m = omega arith in rw e (path-law g side p d f ws m l)

  pub not-framed : framed ws m p d f ≡ false → false ≡ is_path g side p d f ws
  not-framed e = sym (law ∙ ap (λ (b : Bool). (b && plain_ends) && (assigned && leads_on)) e)

  pub not_plain : plain_ends ≡ false → false ≡ is_path g side p d f ws
  not_plain e = sym (law ∙ ap (λ (b : Bool). (framed ws m p d f && b) && (assigned && leads_on)) e ∙ ap (λ (b : Bool). b && (assigned && leads_on)) (and-swap (framed ws m p d f) false))

  pub not-assigned : assigned ≡ false → false ≡ is_path g side p d f ws
  not-assigned e = sym (law ∙ ap (λ (b : Bool). (framed ws m p d f && plain_ends) && (b && leads_on)) e ∙ and-swap (framed ws m p d f && plain_ends) false)

  pub all-passed : (r : Bool) → framed ws m p d f ≡ true → plain_ends ≡ true → assigned ≡ true → r ≡ leads_on → r ≡ is_path g side p d f ws
  all-passed r a b c q = q ∙ sym (law ∙ ap (λ (x : Bool). x && (assigned && leads_on)) (both a b) ∙ ap (λ (x : Bool). x && leads_on) c)

-- ---- the reply

pub office-by : (s : List ℕ) (h : Header) (office n : ℕ) → h ≡ header_of s → n ≡ bad_office h office → n ≡ bad_office (header_of s) office
office-by s h office n e q = q ∙ ap (λ (x : Header). bad_office x office) e

yes-or-no : (b r : Bool) (n : ℕ) → b ≡ r → n ≡ bool_byte b → n ≡ number_of r
yes-or-no true r n e q = q ∙ ap number_of e
yes-or-no false r n e q = q ∙ ap number_of e

-- what is seen at the office is what the question is about
pub told-so : (at : OfficeSheet) (sheet : Sheet) (q : Question) (ws : List ℕ) (asks : Asks) (b : Bool) (n : ℕ) → (at.sheet ≡ sheet) × (at.seat ≡ seat_for q) × (bad_office sheet.header q.office ≡ 0) → side asks ≡ side_of q.kind
    → b ≡ is_path (seen_at_seat at) (side asks) q.person q.deed q.folio ws → n ≡ bool_byte b → n ≡ number_of (is_path (asked sheet.words.now q) (side_of q.kind) q.person q.deed q.folio ws)
told-so at sheet q ws asks b n e k h i =
    let a = ap (λ (x : Side). is_path (seen_at_seat at) x q.person q.deed q.folio ws) k in
    let c = ap (λ (x : Sheet). is_path (seen_from x.words.now at.seat) (side_of q.kind) q.person q.deed q.folio ws) e.0 in
    let d = ap (λ (x : Seat). is_path (seen_from sheet.words.now x) (side_of q.kind) q.person q.deed q.folio ws) e.1 in
    yes-or-no b _ n (h ∙ a ∙ c ∙ d) i
