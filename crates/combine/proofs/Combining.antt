-- One step of a walk over two rising tables keeps what is combined so far: at the step's key the marks are what is made of both tables', and at every other key nothing changes.
-- Assumes nothing.
use Prim.Native.Nat.{ℕ, zero, suc, ◌+◌, ◌<◌, ◌≤◌}
use mathlib.Core.Path.{◌≡◌, refl, sym, ap, ap₂, subst, ◌∙◌}
use mathlib.Core.Bool.{Bool, true, false, cond}
use mathlib.Core.List.{[]}
use native.Mathlib.Omega.{arith}
use native.Mathlib.Decide.{dec_lt}
use lib.Dec.{ltb}
use borrow.Author.Tests.{lt-ltb, le-ltb}
use Rattle.tables.specs.Count.{number_of, how_many}
use Rattle.tables.specs.Key.{Key, below_key}
use Rattle.tables.specs.Table.{Row, rows_of, marks_at}
use Rattle.tables.proofs.Counts.{many-next, many-rises, has-row, has-not}
use Rattle.tables.proofs.Keys.{Lies, lower, equal, higher, lies, same_or, below_irrefl, below-asym, below-trans, below_apart, rises, one-row}
use Rattle.tables.proofs.Tables.{RowAt, marks-none, marks-named, row_of, rows_alike, marks-more, marks-still}
use Rattle.sheet.specs.Found.{PlaceIs}
use Rattle.combine.specs.Combined.{Making, keys, IsTable, Combined, first_stays, second_stays, rows_kept, TableStep, takes, leaves, Stepped, given, Walked, Put, drops, stays, PlacesIn}

pub given-taken : (f : ℕ → Row) (from to : ℕ) → from < to → given f from to ≡ (f from).marks
unfolding given
given-taken f from to l = rw (lt-ltb from to l) refl

pub given-left : (f : ℕ → Row) (from to : ℕ) → to ≤ from → given f from to ≡ 0
unfolding given
given-left f from to l = rw (le-ltb from to l) refl

-- ---- one side of a step

module _ (n : ℕ) (f : ℕ → Row) (T : IsTable n f) (i : ℕ) (key : Key) (next : ℕ) (S : TableStep n (keys f) i key next) where
  pub side-in : i ≤ n → next ≤ n
  side-in l = go S
    where
      go : TableStep n (keys f) i key next → next ≤ n
      go (takes a e z) = omega arith
      go (leaves a z) = omega arith

  -- a table moves on by a row that it has
  pub side-inside : i < next → i < n
  side-inside l = go S
    where
      go : TableStep n (keys f) i key next → i < n
      go (takes a e z) = a
      go (leaves a z) = absurd (omega arith)

  -- the rows to come are higher
  side_after : next < n → below_key key (f next).key ≡ true
  side_after l = go S
    where
      go : TableStep n (keys f) i key next → below_key key (f next).key ≡ true
      go (takes a e z) = subst (λ (x : Key). below_key x (f next).key ≡ true) e (rises (keys f) n T.up i next (omega arith) l)
      go (leaves a z) = let q : i ≡ next = omega arith in subst (λ (x : ℕ). below_key key (f x).key ≡ true) q (a (omega arith))

  module _ (passed : (x : ℕ) → x < i → below_key (f x).key key ≡ true) where
    -- the rows passed are lower than what is higher than the key
    side_before : (z : Key) → below_key key z ≡ true → (x : ℕ) → x < next → below_key (f x).key z ≡ true
    side_before z u x l = go S (dec_lt x i)
      where
        go : TableStep n (keys f) i key next → Dec (x < i) → below_key (f x).key z ≡ true
        go s (yes d) = below-trans (f x).key key z (passed x d) u
        go (takes a e q) (no d) = let p : i ≡ x = omega arith in subst (λ (y : Key). below_key y z ≡ true) (sym e ∙ ap (keys f) p) u
        go (leaves a q) (no d) = absurd (omega arith)

    -- no row passed has the key
    side-new : marks_at (rows_of i f) key ≡ 0
    side-new = marks-none i f key (λ x l e. below_apart (f x).key key (passed x l) e)

    -- a key that is lower than the next is not the table's
    not_there : (i < n → below_key key (f i).key ≡ true) → (x : ℕ) → x < n → (f x).key ≡ key → ⊥
    not_there a x l e = pick (dec_lt x i) (dec_lt i x)
      where
        pick : Dec (x < i) → Dec (i < x) → ⊥
        pick (yes m) w = below_apart (f x).key key (passed x m) e
        pick (no m) (yes w) = below_apart key (f x).key (below-trans key (f i).key (f x).key (a (omega arith)) (rises (keys f) n T.up i x w l)) (sym e)
        pick (no m) (no w) = let q : i ≡ x = omega arith in below_apart key (f i).key (a (omega arith)) (sym (ap (keys f) q ∙ e))

    -- what the table gives the step is its marks at the key: those of the whole table, and of the rows passed then
    pub side-marks : given f i next ≡ marks_at (rows_of n f) key
    side-marks = go S
      where
        go : TableStep n (keys f) i key next → given f i next ≡ marks_at (rows_of n f) key
        go (takes a e z) = given-taken f i next (omega arith) ∙ sym (marks-named n f (one-row (keys f) n T.up) key i a e)
        go (leaves a z) = given-left f i next (omega arith) ∙ sym (marks-none n f key (not_there a))

    side-here : marks_at (rows_of next f) key ≡ given f i next
    side-here = go S
      where
        go : TableStep n (keys f) i key next → marks_at (rows_of next f) key ≡ given f i next
        go (takes a e z) = ap (λ (x : ℕ). marks_at (rows_of x f) key) z ∙ marks-more i f key e ∙ omega (arith, side-new, given-taken f i next (omega arith))
        go (leaves a z) = ap (λ (x : ℕ). marks_at (rows_of x f) key) z ∙ omega (arith, side-new, given-left f i next (omega arith))

    side-else : (k : Key) → (key ≡ k → ⊥) → marks_at (rows_of next f) k ≡ marks_at (rows_of i f) k
    side-else k apart = go S
      where
        go : TableStep n (keys f) i key next → marks_at (rows_of next f) k ≡ marks_at (rows_of i f) k
        go (takes a e z) = ap (λ (x : ℕ). marks_at (rows_of x f) k) z ∙ marks-still i f k (λ q. apart (sym e ∙ q))
        go (leaves a z) = ap (λ (x : ℕ). marks_at (rows_of x f) k) z

-- ---- a row that is put or not

module _ (m : ℕ) (key : Key) (k : ℕ) (h : ℕ → Row) (k' : ℕ) (h' : ℕ → Row) (P : Put m key k h k' h') where
  put-kept : (u : ℕ) → u < k → h' u ≡ h u
  put-kept u l = go P
    where
      go : Put m key k h k' h' → h' u ≡ h u
      go (drops z q e) = e u l
      go (stays z q e r) = e u l

  put-grows : k ≤ k'
  put-grows = go P
    where
      go : Put m key k h k' h' → k ≤ k'
      go (drops z q e) = omega arith
      go (stays z q e r) = omega arith

  -- a row behind the others is the one that is put
  put_last : (u : ℕ) → k ≤ u → u < k' → (h' u).key ≡ key
  put_last u a l = go P
    where
      go : Put m key k h k' h' → (h' u).key ≡ key
      go (drops z q e) = absurd (omega arith)
      go (stays z q e r) = let w : u ≡ k = omega arith in ap (λ (x : ℕ). (h' x).key) w ∙ ap (λ (x : Row). x.key) r

  put-here : marks_at (rows_of k' h') key ≡ marks_at (rows_of k h) key + m
  put-here = go P
    where
      go : Put m key k h k' h' → marks_at (rows_of k' h') key ≡ marks_at (rows_of k h) key + m
      go (drops z q e) = ap (λ (x : ℕ). marks_at (rows_of x h') key) q ∙ rw (rows_alike k h h' e) (omega arith)
      go (stays z q e r) =
          ap (λ (x : ℕ). marks_at (rows_of x h') key) q ∙ marks-more k h' key (ap (λ (x : Row). x.key) r)
          ∙ rw (rows_alike k h h' e, r) refl

  put-else : (x : Key) → (key ≡ x → ⊥) → marks_at (rows_of k' h') x ≡ marks_at (rows_of k h) x
  put-else x apart = go P
    where
      go : Put m key k h k' h' → marks_at (rows_of k' h') x ≡ marks_at (rows_of k h) x
      go (drops z q e) = ap (λ (y : ℕ). marks_at (rows_of y h') x) q ∙ rw (rows_alike k h h' e) refl
      go (stays z q e r) =
          ap (λ (y : ℕ). marks_at (rows_of y h') x) q ∙ marks-still k h' x (λ w. apart (sym (ap (λ (y : Row). y.key) r) ∙ w))
          ∙ rw (rows_alike k h h' e) refl

  put-table : IsTable k h → ((u : ℕ) → u < k → below_key (h u).key key ≡ true) → IsTable k' h'
  put-table T over = go P
    where
      alike : (u : ℕ) → h' u ≡ h u → h' (u + 1) ≡ h (u + 1) → below_key (h u).key (h (u + 1)).key ≡ true → below_key (h' u).key (h' (u + 1)).key ≡ true
      alike u p q l = ap₂ (λ (x y : Row). below_key x.key y.key) p q ∙ l

      go : Put m key k h k' h' → IsTable k' h'
      go (drops z q e) =
          record {
            up = λ u l. alike u (e u (omega arith)) (e (u + 1) (omega arith)) (T.up u (omega arith));
            some = λ u l. rw (e u (omega arith)) (T.some u (omega arith));
          }
      go (stays z q e r) = record { up = λ u l. higher u l (dec_lt (u + 1) k); some = λ u l. bears u l (dec_lt u k) }
        where
          higher : (u : ℕ) → u + 1 < k' → Dec (u + 1 < k) → below_key (h' u).key (h' (u + 1)).key ≡ true
          higher u l (yes d) = alike u (e u (omega arith)) (e (u + 1) d) (T.up u d)
          higher u l (no d) = let w : u + 1 ≡ k = omega arith in rw (w, r, e u (omega arith)) (over u (omega arith))

          bears : (u : ℕ) → u < k' → Dec (u < k) → 0 < (h' u).marks
          bears u l (yes d) = rw (e u d) (T.some u d)
          bears u l (no d) = let w : u ≡ k = omega arith in rw (w, r) z

-- a row can always be put
abbrev pub row_behind : ℕ → (ℕ → Row) → Row → ℕ → Row
row_behind k h r u = cond (ltb u k) (h u) r

pub putting : (m : ℕ) (key : Key) (k : ℕ) (h : ℕ → Row) → Put m key k h (k + number_of (ltb 0 m)) (row_behind k h (record { key = key; marks = m }))
putting m key k h = go (dec_lt 0 m)
  where
    r : Row
    r = record { key = key; marks = m }

    kept : (r : Row) (u : ℕ) → u < k → row_behind k h r u ≡ h u
    kept r u l = ap (λ (b : Bool). cond b (h u) r) (lt-ltb u k l)

    go : Dec (0 < m) → Put m key k h (k + number_of (ltb 0 m)) (row_behind k h (record { key = key; marks = m }))
    go (yes l) = stays l (ap (λ (b : Bool). k + number_of b) (lt-ltb 0 m l)) (kept r) (ap (λ (b : Bool). cond b (h k) r) (le-ltb k k (omega arith)))
    go (no l) = let z : k + 0 ≡ k = omega arith in drops (omega arith) (ap (λ (b : Bool). k + number_of b) (le-ltb 0 m (omega arith)) ∙ z) (kept r)

pub putting-as : (m m' : ℕ) (key : Key) (k : ℕ) (h : ℕ → Row) (k' : ℕ) → m ≡ m' → k' ≡ k + number_of (ltb 0 m) → Put m' key k h k' (row_behind k h (record { key = key; marks = m }))
putting-as m m' key k h k' e c = subst (λ (x : ℕ). Put x key k h k' (row_behind k h (record { key = key; marks = m }))) e (subst (λ (x : ℕ). Put m key k h x (row_behind k h (record { key = key; marks = m }))) (sym c) (putting m key k h))

-- ---- a step

module _ (F : Making) (none : F 0 0 ≡ 0) (n : ℕ) (f : ℕ → Row) (A : IsTable n f) (m : ℕ) (g : ℕ → Row) (B : IsTable m g) where
  -- nothing is combined yet
  pub walk-starts : (h : ℕ → Row) → Walked F n f m g 0 0 0 h
  unfolding how_many rows_of marks_at
  walk-starts h =
      record {
        first-in = omega arith;
        second-in = omega arith;
        first-ahead = λ y l d. absurd (omega arith);
        second-ahead = λ x l d. absurd (omega arith);
        combined = record { table = record { up = λ u l. absurd (omega arith); some = λ u l. absurd (omega arith) }; marks = λ key. sym none };
        count = refl;
      }

  module _ (i j k : ℕ) (h : ℕ → Row) (W : Walked F n f m g i j k h) (key : Key) (i' j' : ℕ) (S : Stepped n (keys f) m (keys g) i j key i' j') where
    -- the rows passed are lower
    pub first-passed : (x : ℕ) → x < i → below_key (f x).key key ≡ true
    first-passed x l = go S.first S.second
      where
        go : TableStep n (keys f) i key i' → TableStep m (keys g) j key j' → below_key (f x).key key ≡ true
        go (takes a e z) s = subst (λ (y : Key). below_key (f x).key y ≡ true) e (rises (keys f) n A.up x i l a)
        go (leaves a z) (takes b e q) = subst (λ (y : Key). below_key (f x).key y ≡ true) e (W.second-ahead x l b)
        go (leaves a z) (leaves b q) = absurd (omega (arith, S.moved))

    pub second-passed : (y : ℕ) → y < j → below_key (g y).key key ≡ true
    second-passed y l = go S.first S.second
      where
        go : TableStep n (keys f) i key i' → TableStep m (keys g) j key j' → below_key (g y).key key ≡ true
        go s (takes b e q) = subst (λ (x : Key). below_key (g y).key x ≡ true) e (rises (keys g) m B.up y j l b)
        go (takes a e z) (leaves b q) = subst (λ (x : Key). below_key (g y).key x ≡ true) e (W.first-ahead y l a)
        go (leaves a z) (leaves b q) = absurd (omega (arith, S.moved))

    -- so are the rows combined, which come from them
    over : (u : ℕ) → u < k → below_key (h u).key key ≡ true
    over u l = go (dec_lt 0 (marks_at (rows_of i f) (h u).key)) (dec_lt 0 (marks_at (rows_of j g) (h u).key))
      where
        below : (n' : ℕ) (f' : ℕ → Row) → ((x : ℕ) → x < n' → below_key (f' x).key key ≡ true) → RowAt n' f' (h u).key → below_key (h u).key key ≡ true
        below n' f' passed r = subst (λ (y : Key). below_key y key ≡ true) r.names (passed r.row r.inside)

        go : Dec (0 < marks_at (rows_of i f) (h u).key) → Dec (0 < marks_at (rows_of j g) (h u).key) → below_key (h u).key key ≡ true
        go (yes a) d = below i f first-passed (row_of i f (h u).key a)
        go (no a) (yes b) = below j g second-passed (row_of j g (h u).key b)
        go (no a) (no b) =
            let x : marks_at (rows_of i f) (h u).key ≡ 0 = omega arith in
            let y : marks_at (rows_of j g) (h u).key ≡ 0 = omega arith in
            let T = W.combined.table in
            absurd (omega (arith, T.some u l, marks-named k h (one-row (keys h) k T.up) (h u).key u l refl, W.combined.marks (h u).key, ap₂ F x y, none))

    abbrev made : ℕ
    made = F (given f i i') (given g j j')

    -- what is made at the step's key of the whole tables' marks
    pub made-is : made ≡ F (marks_at (rows_of n f) key) (marks_at (rows_of m g) key)
    made-is = ap₂ F (side-marks n f A i key i' S.first first-passed) (side-marks m g B j key j' S.second second-passed)

    module _ (k' : ℕ) (h' : ℕ → Row) (P : Put made key k h k' h') where
      combined-on : Combined F i' f j' g k' h'
      combined-on =
          record {
            table = put-table made key k h k' h' P W.combined.table over;
            marks = λ x. same_or key x (marks_at (rows_of k' h') x ≡ F (marks_at (rows_of i' f) x) (marks_at (rows_of j' g) x)) (here x) (else x);
          }
        where
          here : (x : Key) → key ≡ x → marks_at (rows_of k' h') x ≡ F (marks_at (rows_of i' f) x) (marks_at (rows_of j' g) x)
          here x e =
              let old : marks_at (rows_of k h) key ≡ 0 = W.combined.marks key ∙ ap₂ F (side-new n f A i key i' S.first first-passed) (side-new m g B j key j' S.second second-passed) ∙ none in
              let now : marks_at (rows_of k' h') key ≡ made = put-here made key k h k' h' P ∙ omega arith in
              subst (λ (y : Key). marks_at (rows_of k' h') y ≡ F (marks_at (rows_of i' f) y) (marks_at (rows_of j' g) y)) e
              (now ∙ sym (ap₂ F (side-here n f A i key i' S.first first-passed) (side-here m g B j key j' S.second second-passed)))

          else : (x : Key) → (key ≡ x → ⊥) → marks_at (rows_of k' h') x ≡ F (marks_at (rows_of i' f) x) (marks_at (rows_of j' g) x)
          else x d =
              put-else made key k h k' h' P x d ∙ W.combined.marks x
              ∙ sym (ap₂ F (side-else n f A i key i' S.first first-passed x d) (side-else m g B j key j' S.second second-passed x d))

      -- the places of the rows passed
      module _ (n° : ℕ) (f° : ℕ → Row) (o o' : ℕ) (Q : TableStep n° (keys f°) o key o') (passed : (x : ℕ) → x < o → below_key (f° x).key key ≡ true) where
        pub places-on : (spots map' : ℕ → ℕ) → PlacesIn f° o spots k h → ((x : ℕ) → x < o → map' x ≡ spots x) → (o < o' → map' o ≡ k) → PlacesIn f° o' map' k' h'
        places-on spots map' L same new x l = go (dec_lt x o) Q
          where
            -- against a row that stood there, and against the one that is put
            stays-there : (z : Key) (t : Bool) (u : ℕ) → u < k → below_key (h u).key z ≡ t → below_key (h' u).key z ≡ t
            stays-there z t u b e = ap (λ (y : Row). below_key y.key z) (put-kept made key k h k' h' P u b) ∙ e

            against : (z : Key) (t : Bool) (u : ℕ) → k ≤ u → u < k' → below_key key z ≡ t → below_key (h' u).key z ≡ t
            against z t u b c e = ap (λ (y : Key). below_key y z) (put_last made key k h k' h' P u b c) ∙ e

            old : x < o → PlaceIs (keys h') k' (f° x).key (spots x)
            old d =
                let p = L x d in
                record {
                  inside = omega (arith, p.inside, put-grows made key k h k' h' P);
                  before = λ u b. stays-there (f° x).key true u (omega (arith, p.inside)) (p.before u b);
                  after = λ u b c. later p u b c (dec_lt u k);
                }
              where
                later : PlaceIs (keys h) k (f° x).key (spots x) → (u : ℕ) → spots x ≤ u → u < k' → Dec (u < k) → below_key (h' u).key (f° x).key ≡ false
                later p u b c (yes e) = stays-there (f° x).key false u e (p.after u b e)
                later p u b c (no e) = against (f° x).key false u (omega arith) c (below-asym (f° x).key key (passed x d))

            last : PlaceIs (keys h') k' key k
            last =
                record {
                  inside = put-grows made key k h k' h' P;
                  before = λ u b. stays-there key true u b (over u b);
                  after = λ u b c. against key false u b c (below_irrefl key);
                }

            go : Dec (x < o) → TableStep n° (keys f°) o key o' → PlaceIs (keys h') k' (f° x).key (map' x)
            go (yes d) s = subst (PlaceIs (keys h') k' (f° x).key) (sym (same x d)) (old d)
            go (no d) (leaves a z) = absurd (omega arith)
            go (no d) (takes a e z) =
                let w : o ≡ x = omega arith in
                let p : k ≡ map' x = sym (new (omega arith)) ∙ ap map' w in
                subst (PlaceIs (keys h') k' (f° x).key) p (subst (λ (y : Key). PlaceIs (keys h') k' y k) (sym e ∙ ap (keys f°) w) last)

      -- one more of those that are counted
      count-on : k' ≡ how_many (first_stays F f m g) i' + how_many (second_stays F n f g) j'
      unfolding first_stays second_stays
      count-on = go S.first S.second P
        where
          first-test : i < n → (f i).key ≡ key → first_stays F f m g i ≡ ltb 0 made
          first-test a e =
              let x : marks_at (rows_of n f) key ≡ (f i).marks = marks-named n f (one-row (keys f) n A.up) key i a e in
              ap (ltb 0) (ap₂ F (sym x) (ap (marks_at (rows_of m g)) e) ∙ sym made-is)

          -- a row that both have is counted with the first's
          second-both : i < n → (f i).key ≡ key → j < m → (g j).key ≡ key → second_stays F n f g j ≡ false
          second-both a e c d = rw (has-row n (keys f) (g j).key i a (e ∙ sym d)) refl

          second-alone : (i < n → below_key key (f i).key ≡ true) → i' ≡ i → j < m → (g j).key ≡ key → second_stays F n f g j ≡ ltb 0 made
          second-alone a z c d =
              let none-there = not_there n f A i key i' S.first first-passed a in
              let y : marks_at (rows_of m g) key ≡ (g j).marks = marks-named m g (one-row (keys g) m B.up) key j c d in
              let x : marks_at (rows_of n f) key ≡ 0 = marks-none n f key none-there in
              rw (has-not n (keys f) (g j).key (λ u l q. none-there u l (q ∙ d))) (ap (ltb 0) (ap₂ F (sym x) (sym y) ∙ sym made-is))

          -- the row is there or not
          grown : Put made key k h k' h' → k' ≡ k + number_of (ltb 0 made)
          grown (drops z q e) = rw z (omega arith)
          grown (stays z q e r) = rw (lt-ltb 0 made z) (omega arith)

          first_more : i' ≡ i + 1 → i < n → (f i).key ≡ key → how_many (first_stays F f m g) i' ≡ how_many (first_stays F f m g) i + number_of (ltb 0 made)
          first_more z a e = ap (how_many (first_stays F f m g)) z ∙ many-next (first_stays F f m g) i ∙ ap (λ (x : Bool). how_many (first_stays F f m g) i + number_of x) (first-test a e)

          second_more : (t : Bool) → j' ≡ j + 1 → second_stays F n f g j ≡ t → how_many (second_stays F n f g) j' ≡ how_many (second_stays F n f g) j + number_of t
          second_more t z e = ap (how_many (second_stays F n f g)) z ∙ many-next (second_stays F n f g) j ∙ ap (λ (x : Bool). how_many (second_stays F n f g) j + number_of x) e

          go : TableStep n (keys f) i key i' → TableStep m (keys g) j key j' → Put made key k h k' h' → k' ≡ how_many (first_stays F f m g) i' + how_many (second_stays F n f g) j'
          go (takes a e z) (takes c d q) p = omega (arith, grown p, W.count, first_more z a e, second_more false q (second-both a e c d))
          go (takes a e z) (leaves c q) p = omega (arith, grown p, W.count, first_more z a e, ap (how_many (second_stays F n f g)) q)
          go (leaves a z) (takes c d q) p = omega (arith, grown p, W.count, ap (how_many (first_stays F f m g)) z, second_more (ltb 0 made) q (second-alone a z c d))
          go (leaves a z) (leaves c q) p = absurd (omega (arith, S.moved))

      pub walk-on : Walked F n f m g i' j' k' h'
      walk-on =
          record {
            first-in = side-in n f A i key i' S.first W.first-in;
            second-in = side-in m g B j key j' S.second W.second-in;
            first-ahead = λ y l d. side_before m g B j key j' S.second second-passed (f i').key (side_after n f A i key i' S.first d) y l;
            second-ahead = λ x l d. side_before n f A i key i' S.first first-passed (g j').key (side_after m g B j key j' S.second d) x l;
            combined = combined-on;
            count = count-on;
          }

    -- there is room for a row that has marks
    pub walk-room : 0 < made → k < rows_kept F n f m g
    unfolding rows_kept
    walk-room some =
        let W' = walk-on _ _ (putting made key k h) in
        let z : number_of (ltb 0 made) ≡ 1 = ap number_of (lt-ltb 0 made some) in
        omega (arith, W'.count, many-rises (first_stays F f m g) i' n W'.first-in, many-rises (second_stays F n f g) j' m W'.second-in)

  -- the walk is over where as many rows are passed as both tables have
  pub walk-done : (i j k : ℕ) (h : ℕ → Row) → Walked F n f m g i j k h → n + m ≤ i + j → Combined F n f m g k h × (k ≡ rows_kept F n f m g) × (i ≡ n) × (j ≡ m)
  unfolding rows_kept
  walk-done i j k h W l =
      let a : i ≡ n = omega (arith, W.first-in, W.second-in) in
      let b : j ≡ m = omega (arith, W.first-in, W.second-in) in
      (rw (a, b) at W.combined, W.count ∙ ap₂ (λ (x y : ℕ). how_many (first_stays F f m g) x + how_many (second_stays F n f g) y) a b, a, b)

-- ---- two rising tables have a combination

pub record HasCombination (F : Making) (n : ℕ) (f : ℕ → Row) (m : ℕ) (g : ℕ → Row) : Type 0 where
  pub rows : ℕ
  pub row : ℕ → Row
  pub combined : Combined F n f m g rows row
  pub count : rows ≡ rows_kept F n f m g

-- a next key, and how many rows of each table are taken then
pub record NextKey (n : ℕ) (f : ℕ → Key) (m : ℕ) (g : ℕ → Key) (i j : ℕ) : Type 0 where
  pub key : Key
  pub first_on : ℕ
  pub second-on : ℕ
  pub stepped : Stepped n f m g i j key first_on second-on

-- while keys are left
pub next : (n : ℕ) (f : ℕ → Key) (m : ℕ) (g : ℕ → Key) (i j : ℕ) → i + j < n + m → i ≤ n → j ≤ m → NextKey n f m g i j
next n f m g i j l a b = go (dec_lt i n) (dec_lt j m)
  where
    first : i < n → (j < m → below_key (f i) (g j) ≡ true) → NextKey n f m g i j
    first p u = record { key = f i; first_on = i + 1; second-on = j; stepped = record { first = takes p refl refl; second = leaves u refl; moved = omega arith } }

    second : j < m → (i < n → below_key (g j) (f i) ≡ true) → NextKey n f m g i j
    second q u = record { key = g j; first_on = i; second-on = j + 1; stepped = record { first = leaves u refl; second = takes q refl refl; moved = omega arith } }

    both : i < n → j < m → Lies (f i) (g j) → NextKey n f m g i j
    both p q (lower u v w) = first p (λ d. u)
    both p q (higher u v w) = second q (λ d. u)
    both p q (equal e) = record { key = f i; first_on = i + 1; second-on = j + 1; stepped = record { first = takes p refl refl; second = takes q (sym e) refl; moved = omega arith } }

    go : Dec (i < n) → Dec (j < m) → NextKey n f m g i j
    go (yes p) (yes q) = both p q (lies (f i) (g j))
    go (yes p) (no q) = first p (λ d. absurd (q d))
    go (no p) (yes q) = second q (λ d. absurd (p d))
    go (no p) (no q) = absurd (omega arith)

module _ (F : Making) (none : F 0 0 ≡ 0) (n : ℕ) (f : ℕ → Row) (A : IsTable n f) (m : ℕ) (g : ℕ → Row) (B : IsTable m g) where
  over-now : (i j k : ℕ) (h : ℕ → Row) → Walked F n f m g i j k h → n + m ≤ i + j → HasCombination F n f m g
  over-now i j k h W l = let d = walk-done F none n f A m g B i j k h W l in record { rows = k; row = h; combined = d.0; count = d.1 }

  -- a walk goes on to the end
  goes_on_lem : (left i j k : ℕ) (h : ℕ → Row) → Walked F n f m g i j k h → n + m ≤ i + j + left → HasCombination F n f m g
  goes_on_lem zero i j k h W l = over-now i j k h W (omega arith)
  goes_on_lem (suc left) i j k h W l = go (dec_lt (i + j) (n + m)) (goes_on_lem left)
    where
      go : Dec (i + j < n + m) → ((i' j' k' : ℕ) (h' : ℕ → Row) → Walked F n f m g i' j' k' h' → n + m ≤ i' + j' + left → HasCombination F n f m g) → HasCombination F n f m g
      go (no d) more = over-now i j k h W (omega arith)
      go (yes d) more =
          let s = next n (keys f) m (keys g) i j d W.first-in W.second-in in
          more s.first_on s.second-on _ _
          (walk-on F none n f A m g B i j k h W s.key s.first_on s.second-on s.stepped _ _ (putting _ _ k h))
          (omega (arith, s.stepped.moved))

  pub combination : HasCombination F n f m g
  combination = goes_on_lem (n + m) 0 0 0 (λ u. record { key = []; marks = 0 }) (walk-starts F none n f A m g B _) (omega arith)
