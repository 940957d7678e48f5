-- The best trail of rows, in its words, is the witness: rows of one type are in the order of (number, variant).
-- Assumes nothing.
use Prim.Native.Nat.{ℕ, zero, suc, ◌+◌, ◌*◌, ◌<◌, ◌≤◌}
use native.Mathlib.Omega.{arith}
use native.Mathlib.Decide.{dec_lt}
use mathlib.Core.Path.{◌≡◌, refl, sym, ap, subst, ◌∙◌}
use mathlib.Core.Bool.{true, false, false≢true}
use mathlib.Core.List.{List, [], ◌∷◌}
use lib.ListN.{length}
use borrow.Author.Tests.{le-ltb, ne_eqb, eq-eqb}
use Rattle.tables.specs.Key.{Key, below_key}
use Rattle.tables.specs.Office.{View}
use Rattle.tables.proofs.Keys.{Ahead, first, rest, ahead, rises}
use Rattle.sheet.specs.declared.Seat.{Seat}
use Rattle.sheet.specs.Rows.{header_of, node_at, edge_table, node_key_at}
use Rattle.sheet.specs.Accepted.{Accepted}
use Rattle.sheet.specs.Seats.{seen_from}
use Rattle.paths.specs.Best.{Trail, ends, goes, Before, less, same, Best}
use Rattle.paths.proofs.Tests.{both}
use Rattle.meaning.specs.Paths.{Side, person, category, deed, folio, path, spell, is_path}
use Rattle.meaning.specs.Forms.{fewer}
use Rattle.meaning.specs.Questions.{WitnessIs}
use Rattle.meaning.proofs.Spelling.{spells, spell-long}
use Rattle.meaning.proofs.Search.{longer}
use Rattle.walk.specs.Arcs.{Steps}
use Rattle.walk.proofs.Walking.{step-inside}
use Rattle.ask.specs.PathRows.{spelled_rows}
use Rattle.ask.proofs.Links.{walk_for, Link, joins, climbs, gives-right, serves, link-of, member-arc}
use Rattle.ask.proofs.Bridge.{Goes, rows-for, FromPerson, person-read, path-trail, short-leads}

pub spelled-long : (s rows : List ℕ) → length (spelled_rows s rows) ≡ 2 * length rows
unfolding spelled_rows
spelled-long s [] = refl
spelled-long s (i ∷ rows) = omega (arith, spelled-long s rows)

-- two identities of one type in order: their words are, whatever follows
pair-order : (t n v n' v' : ℕ) (x y : Key) → below_key (t ∷ n ∷ v ∷ []) (t ∷ n' ∷ v' ∷ []) ≡ true → below_key (n' ∷ v' ∷ x) (n ∷ v ∷ y) ≡ false
pair-order t n v n' v' x y e = types (ahead t t _ _ e)
  where
    variants : n ≡ n' → Ahead v v' [] [] → below_key (n' ∷ v' ∷ x) (n ∷ v ∷ y) ≡ false
    variants q (first l) = rw (le-ltb n' n (omega arith), eq-eqb n' n (sym q), le-ltb v' v (omega arith), ne_eqb v' v (λ z. omega arith))
    variants q (rest z l) = absurd (false≢true l)

    numbers : Ahead n n' (v ∷ []) (v' ∷ []) → below_key (n' ∷ v' ∷ x) (n ∷ v ∷ y) ≡ false
    numbers (first l) = rw (le-ltb n' n (omega arith), ne_eqb n' n (λ z. omega arith))
    numbers (rest q l) = variants q (ahead v v' [] [] l)

    types : Ahead t t (n ∷ v ∷ []) (n' ∷ v' ∷ []) → below_key (n' ∷ v' ∷ x) (n ∷ v ∷ y) ≡ false
    types (first l) = absurd (omega (arith, l))
    types (rest q l) = numbers (ahead n n' (v ∷ []) (v' ∷ []) l)

same-pair : (n v : ℕ) (x y : Key) → below_key x y ≡ false → below_key (n ∷ v ∷ x) (n ∷ v ∷ y) ≡ false
same-pair n v x y e = rw (le-ltb n n (omega arith), eq-eqb n n refl, le-ltb v v (omega arith), eq-eqb v v refl) e

module _ (s : List ℕ) (acc : Accepted s) (seat : Seat) (side : Side) (d : ℕ) (some : d ≡ 0 → ⊥) (rf f : ℕ) (inside : rf < (header_of s).nodes) (is-folio : node_key_at s rf ≡ folio f) where
  abbrev g : View
  g = seen_from s seat

  abbrev Arcs : ℕ → ℕ → Type 0
  Arcs = Steps s (edge_table s) (walk_for seat side d) (header_of s).edges

  abbrev Goal : ℕ → Type 0
  Goal x = x ≡ rf

  -- ---- the type of a node that an arc enters, by how many are left of the trail

  abbrev type_for : ℕ → ℕ
  type_for zero = 0
  type_for (suc zero) = 4
  type_for (suc (suc zero)) = 3
  type_for (suc (suc (suc n))) = 2

  class_of : (i t n v : ℕ) → node_key_at s i ≡ t ∷ n ∷ v ∷ [] → (node_at s i).class ≡ t
  class_of i t n v e = cc

  folio-left : (x f' : ℕ) (rows : List ℕ) → node_key_at s x ≡ folio f' → Trail Arcs Goal x rows → length rows ≡ 1
  folio-left x f' rows e (ends t) = refl
  folio-left x f' rows e (goes {b = b} st w) = absurd (never (link-of s acc seat side d some x b st))
    where
      never : Link s acc seat side d x b → ⊥
      never (joins p c u v m) = let z : ◌≡◌ {A = ℕ} 1 4 = cc in omega arith
      never (climbs c c' u v m) = let z : ◌≡◌ {A = ℕ} 2 4 = cc in omega arith
      never (gives-right c v u w m) = let z : ◌≡◌ {A = ℕ} 2 4 = cc in omega arith
      never (serves y v f'' u w m) = let z : ◌≡◌ {A = ℕ} 3 4 = cc in omega arith

  deed-left : (x y v : ℕ) (rows : List ℕ) → node_key_at s x ≡ deed y v → Trail Arcs Goal x rows → length rows ≡ 2
  deed-left x y v rows e (ends t) = absurd (let q : deed y v ≡ folio f = sym e ∙ ap (node_key_at s) t ∙ is-folio in let z : ◌≡◌ {A = ℕ} 3 4 = cc in omega arith)
  deed-left x y v rows e (goes {b = b} {l = l} st w) = by (link-of s acc seat side d some x b st)
    where
      by : Link s acc seat side d x b → suc (length l) ≡ 2
      by (joins p c u z m) = absurd (let z : ◌≡◌ {A = ℕ} 1 3 = cc in omega arith)
      by (climbs c c' u z m) = absurd (let z : ◌≡◌ {A = ℕ} 2 3 = cc in omega arith)
      by (gives-right c z u q m) = absurd (let z : ◌≡◌ {A = ℕ} 2 3 = cc in omega arith)
      by (serves z v' f'' u q m) = ap suc (folio-left b f'' l q w)

  category-left : (x c : ℕ) (rows : List ℕ) → node_key_at s x ≡ category c → Trail Arcs Goal x rows → 3 ≤ length rows
  category-left x c rows e (ends t) = absurd (let q : category c ≡ folio f = sym e ∙ ap (node_key_at s) t ∙ is-folio in let z : ◌≡◌ {A = ℕ} 2 4 = cc in omega arith)
  category-left x c rows e (goes {b = b} {l = l} st w) = by (link-of s acc seat side d some x b st) (λ c' e'. category-left b c' l e' w)
    where
      by : Link s acc seat side d x b → ((c' : ℕ) → node_key_at s b ≡ category c' → 3 ≤ length l) → 3 ≤ suc (length l)
      by (joins p c' u z m) later = absurd (let z : ◌≡◌ {A = ℕ} 1 2 = cc in omega arith)
      by (climbs c' c'' u z m) later = let h = later c'' z in omega arith
      by (gives-right c' v u z m) later = let h = deed-left b d v l z w in omega arith
      by (serves y v' f'' u z m) later = absurd (let z : ◌≡◌ {A = ℕ} 3 2 = cc in omega arith)

  typed : (a b : ℕ) (rows : List ℕ) → Arcs a b → Trail Arcs Goal b rows → (node_at s b).class ≡ type_for (length rows)
  typed a b rows st w = by (link-of s acc seat side d some a b st)
    where
      many : (n : ℕ) → 3 ≤ n → type_for n ≡ 2
      many zero h = absurd (omega (arith, h))
      many (suc zero) h = absurd (omega (arith, h))
      many (suc (suc zero)) h = absurd (omega (arith, h))
      many (suc (suc (suc n))) h = refl

      by : Link s acc seat side d a b → (node_at s b).class ≡ type_for (length rows)
      by (joins p c u y m) = class_of b 2 c 0 y ∙ sym (many (length rows) (category-left b c rows y w))
      by (climbs c c' u y m) = class_of b 2 c' 0 y ∙ sym (many (length rows) (category-left b c' rows y w))
      by (gives-right c v u y m) = class_of b 3 d v y ∙ ap type_for (sym (deed-left b d v rows y w))
      by (serves x v f' u y m) = class_of b 4 f' 0 y ∙ ap type_for (sym (folio-left b f' rows y w))

  -- ---- trails of one length, in the order of rows, are in the order of words

  row-order : (x x' : ℕ) (l l' : List ℕ) → x' < (header_of s).nodes → (node_at s x).class ≡ (node_at s x').class → x < x' → below_key (spelled_rows s (x' ∷ l')) (spelled_rows s (x ∷ l)) ≡ false
  unfolding spelled_rows
  row-order x x' l l' h e q =
      let b = rises (node_key_at s) (header_of s).nodes acc.nodes.rise x x' q h in
      pair-order (node_at s x').class (node_at s x).number (node_at s x).variant (node_at s x').number (node_at s x').variant (spelled_rows s l') (spelled_rows s l)
      (subst (λ (c : ℕ). below_key (c ∷ (node_at s x).number ∷ (node_at s x).variant ∷ []) (node_key_at s x') ≡ true) e b)

  some-nodes : {y : ℕ} {m : List ℕ} → Trail Arcs Goal y m → 1 ≤ length m
  some-nodes (ends t) = omega arith
  some-nodes (goes st w) = omega arith

  pub words-order : (x x' : ℕ) (l l' : List ℕ) → x' < (header_of s).nodes → (node_at s x).class ≡ (node_at s x').class → Trail Arcs Goal x l → Trail Arcs Goal x' l' → length l ≡ length l' → Before l l'
      → below_key (spelled_rows s l') (spelled_rows s l) ≡ false
  unfolding spelled_rows
  words-order x x' l l' h e (ends t) (ends t') n (less q) = row-order x x' [] [] h e q
  words-order x x' l l' h e (ends t) (ends t') n (same q) = same-pair (node_at s x).number (node_at s x).variant [] [] refl
  words-order x x' l l' h e (ends t) (goes st w) n b = absurd (omega (arith, some-nodes w, n))
  words-order x x' l l' h e (goes st w) (ends t) n b = absurd (omega (arith, some-nodes w, n))
  words-order x x' l l' h e (goes {l = m} st w) (goes {l = m'} st' w') n (less q) = row-order x x' m m' h e q
  words-order x x' l l' h e (goes {b = y} {l = m} st w) (goes {b = y'} {l = m'} st' w') n (same q) =
      let z : length m ≡ length m' = omega arith in
      same-pair (node_at s x).number (node_at s x).variant (spelled_rows s m') (spelled_rows s m)
      (words-order y y' m m' (step-inside s (edge_table s) (header_of s) (walk_for seat side d) acc _ y' st').1
      (typed _ y m st w ∙ ap type_for z ∙ sym (typed _ y' m' st' w')) w w' z q)

  -- ---- the witness

  module _ (x p : ℕ) (h : x < (header_of s).nodes) (is-person : node_key_at s x ≡ person p) (rows : List ℕ) (best : Best Arcs Goal x rows) where
    read : FromPerson s acc seat side d some rf f inside is-folio p rows
    read = person-read s acc seat side d some rf f inside is-folio x p rows is-person best.leads

    -- as many nodes as categories, and three
    long : length rows ≡ 4 + length read.categories
    long =
        let a = spelled-long s rows in
        let b = ap length read.words in
        let c = spell-long p (read.start ∷ read.categories) d read.variant f in
        omega arith

    fewest : (cs : List ℕ) (v : ℕ) → Goes s acc seat side d some rf f inside is-folio read.start cs v → length read.categories ≤ length cs
    unfolding spell
    fewest cs v w =
        let a = member-arc s acc seat side d x p read.start h is-person read.assigned in
        let r = rows-for s acc seat side d some rf f inside is-folio read.start cs v a.row w a.inside a.names in
        let q = best.short (x ∷ r.rows) (goes a.arc r.trail) in
        let l = long in
        let m = spelled-long s r.rows in
        let n = ap length r.words in
        let o = spell-long 0 cs d v f in
        omega arith

    pub holds : is_path g side p d f (spelled_rows s rows) ≡ true
    unfolding path
    holds =
        subst (λ (ws : List ℕ). is_path g side p d f ws ≡ true) (sym read.words)
        (spells g side p d f (read.start ∷ read.categories) read.variant
        (both read.assigned (short-leads s acc seat side d some rf f inside is-folio read.start read.categories read.variant read.walks fewest)))

    no-earlier : (rows' : List ℕ) → Trail Arcs Goal x rows' → fewer (spelled_rows s rows') (spelled_rows s rows) ≡ false
    no-earlier rows' t = go (dec_lt (length rows) (length rows'))
      where
        go : Dec (length rows < length rows') → fewer (spelled_rows s rows') (spelled_rows s rows) ≡ false
        go (yes l) = longer (spelled_rows s rows') (spelled_rows s rows) (omega (arith, spelled-long s rows, spelled-long s rows'))
        go (no l) =
            let q = best.short rows' t in
            let e : length rows' ≡ length rows = omega arith in
            let m : length (spelled_rows s rows') ≡ length (spelled_rows s rows) = omega (arith, spelled-long s rows, spelled-long s rows') in
            rw (le-ltb (length (spelled_rows s rows')) (length (spelled_rows s rows)) (omega arith), eq-eqb (length (spelled_rows s rows')) (length (spelled_rows s rows)) m)
            (words-order x x rows rows' h refl best.leads t (sym e) (best.first rows' t e))

    pub witness : WitnessIs g side p d f (spelled_rows s rows)
    witness =
        record {
          holds = holds;
          first = λ ys q. let r = path-trail s acc seat side d some rf f inside is-folio x p ys h is-person q in subst (λ (ws : List ℕ). fewer ws (spelled_rows s rows) ≡ false) r.words (no-earlier r.rows r.trail);
        }
