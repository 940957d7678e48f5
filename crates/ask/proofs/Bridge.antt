-- A trail of arcs from a person's row to a folio's is a path of the office, written in its words; and each path is such a trail.
-- Assumes nothing.
use Prim.Native.Nat.{ℕ, suc, ◌<◌, ◌≤◌}
use native.Mathlib.Omega.{arith}
use mathlib.Core.Path.{◌≡◌, sym, ap, subst, ◌∙◌}
use mathlib.Core.Bool.{true, false, not, false≢true}
use mathlib.Core.List.{List, [], ◌∷◌, ◌++◌}
use mathlib.Core.Logic.{◌⊎◌, inl, inr}
use lib.Dec.{eqb}
use lib.ListN.{length}
use borrow.Author.Tests.{eqb-true}
use Rattle.tables.specs.Office.{View}
use Rattle.sheet.specs.declared.Seat.{Seat}
use Rattle.sheet.specs.Rows.{header_of, node_at, edge_table, node_key_at}
use Rattle.sheet.specs.Accepted.{Accepted}
use Rattle.sheet.specs.Seats.{seen_from}
use Rattle.paths.specs.Leads.{among, leads, Reach, here, more}
use Rattle.paths.specs.Best.{Trail, ends, goes}
use Rattle.paths.proofs.Tests.{and_left, and_right, both, or_cases, either}
use Rattle.paths.proofs.Ways.{first_step, shortened}
use Rattle.meaning.specs.Paths.{Side, person, category, deed, folio, member, right, applies, step, carries, path, pairs, spell, is_path, HasPath}
use Rattle.meaning.proofs.Spelling.{has-path, spelt}
use Rattle.walk.specs.Arcs.{Steps}
use Rattle.ask.specs.PathRows.{spelled_rows}
use Rattle.ask.proofs.Links.{walk_for, Link, joins, climbs, gives-right, serves, link-of, member-arc, step-arc, right-arc, applies-arc, same_row}

-- a row's two words, by its key
row_words_lem : (s : List ℕ) (i t n v : ℕ) (rows : List ℕ) → node_key_at s i ≡ t ∷ n ∷ v ∷ [] → spelled_rows s (i ∷ rows) ≡ n ∷ v ∷ spelled_rows s rows
unfolding spelled_rows
row_words_lem s i t n v rows e =
    let a : (node_at s i).number ≡ n = cc in
    let b : (node_at s i).variant ≡ v = cc in
    rw (a, b)

module _ (s : List ℕ) (acc : Accepted s) (seat : Seat) (side : Side) (d : ℕ) (some : d ≡ 0 → ⊥) (rf f : ℕ) (inside : rf < (header_of s).nodes) (is-folio : node_key_at s rf ≡ folio f) where
  abbrev g : View
  g = seen_from s seat

  abbrev Arcs : ℕ → ℕ → Type 0
  Arcs = Steps s (edge_table s) (walk_for seat side d) (header_of s).edges

  abbrev Goal : ℕ → Type 0
  Goal x = x ≡ rf

  -- from the category c by the categories cs, whether distinct or not, to the right by the variant v
  abbrev pub Goes : ℕ → List ℕ → ℕ → Type 0
  Goes c [] v = carries g side d v f c ≡ true
  Goes c (b ∷ cs) v = (step g side c b ≡ true) × Goes b cs v

  abbrev tail_words : List ℕ → ℕ → List ℕ
  tail_words cs v = pairs cs ++ (d ∷ v ∷ f ∷ 0 ∷ [])

  pub record Read (c : ℕ) (rows : List ℕ) : Type 0 where
    pub categories : List ℕ
    pub variant : ℕ
    pub walks : Goes c categories variant
    pub words : spelled_rows s rows ≡ c ∷ 0 ∷ tail_words categories variant

  -- ---- from rows to words

  folio-ends : (x f' : ℕ) (rows : List ℕ) → node_key_at s x ≡ folio f' → Trail Arcs Goal x rows → (f' ≡ f) × (spelled_rows s rows ≡ f ∷ 0 ∷ [])
  unfolding spelled_rows
  folio-ends x f' rows e (ends t) =
      let q : folio f' ≡ folio f = sym e ∙ ap (node_key_at s) t ∙ is-folio in
      let z : f' ≡ f = cc in
      (z, row_words_lem s x 4 f 0 [] (e ∙ ap (λ (y : ℕ). folio y) z))
  folio-ends x f' rows e (goes {b = b} st w) = absurd (never (link-of s acc seat side d some x b st))
    where
      never : Link s acc seat side d x b → ⊥
      never (joins p c u v m) = let z : ◌≡◌ {A = ℕ} 1 4 = cc in omega arith
      never (climbs c c' u v m) = let z : ◌≡◌ {A = ℕ} 2 4 = cc in omega arith
      never (gives-right c v u w m) = let z : ◌≡◌ {A = ℕ} 2 4 = cc in omega arith
      never (serves y v f'' u w m) = let z : ◌≡◌ {A = ℕ} 3 4 = cc in omega arith

  deed-ends : (x v : ℕ) (rows : List ℕ) → node_key_at s x ≡ deed d v → Trail Arcs Goal x rows → (applies g d v f ≡ true) × (spelled_rows s rows ≡ d ∷ v ∷ f ∷ 0 ∷ [])
  deed-ends x v rows e (ends t) = absurd (let q : deed d v ≡ folio f = sym e ∙ ap (node_key_at s) t ∙ is-folio in let z : ◌≡◌ {A = ℕ} 3 4 = cc in omega arith)
  deed-ends x v rows e (goes {b = b} {l = l} st w) = by (link-of s acc seat side d some x b st)
    where
      by : Link s acc seat side d x b → (applies g d v f ≡ true) × (spelled_rows s (x ∷ l) ≡ d ∷ v ∷ f ∷ 0 ∷ [])
      by (joins p c u y m) = absurd (let z : ◌≡◌ {A = ℕ} 1 3 = cc in omega arith)
      by (climbs c c' u y m) = absurd (let z : ◌≡◌ {A = ℕ} 2 3 = cc in omega arith)
      by (gives-right c y u z m) = absurd (let z : ◌≡◌ {A = ℕ} 2 3 = cc in omega arith)
      by (serves y v' f'' u z m) =
          let a : y ≡ d = cc in
          let b' : v' ≡ v = cc in
          let r = folio-ends b f'' l z w in (
            subst (λ (q : ℕ). applies g d v q ≡ true) r.0 (subst (λ (q : ℕ). applies g d q f'' ≡ true) b' (subst (λ (q : ℕ). applies g q v' f'' ≡ true) a m)),
            row_words_lem s x 3 d v l e ∙ ap (λ (q : List ℕ). d ∷ v ∷ q) r.1,
          )

  pub trail-read : (x c : ℕ) (rows : List ℕ) → node_key_at s x ≡ category c → Trail Arcs Goal x rows → Read c rows
  trail-read x c rows e (ends t) = absurd (let q : category c ≡ folio f = sym e ∙ ap (node_key_at s) t ∙ is-folio in let z : ◌≡◌ {A = ℕ} 2 4 = cc in omega arith)
  trail-read x c rows e (goes {b = b} {l = l} st w) = by (link-of s acc seat side d some x b st) (λ c' e'. trail-read b c' l e' w)
    where
      by : Link s acc seat side d x b → ((c' : ℕ) → node_key_at s b ≡ category c' → Read c' l) → Read c (x ∷ l)
      by (joins p c' u y m) later = absurd (let z : ◌≡◌ {A = ℕ} 1 2 = cc in omega arith)
      by (climbs c' c'' u y m) later =
          let a : c' ≡ c = cc in
          let r = later c'' y in
          record {
            categories = c'' ∷ r.categories;
            variant = r.variant;
            walks = (subst (λ (q : ℕ). step g side q c'' ≡ true) a m, r.walks);
            words = row_words_lem s x 2 c 0 l e ∙ ap (λ (q : List ℕ). c ∷ 0 ∷ q) r.words;
          }
      by (gives-right c' v u y m) later =
          let a : c' ≡ c = cc in
          let r = deed-ends b v l y w in
          record {
            categories = [];
            variant = v;
            walks = both (subst (λ (q : ℕ). right g side q d v ≡ true) a m) r.0;
            words = row_words_lem s x 2 c 0 l e ∙ ap (λ (q : List ℕ). c ∷ 0 ∷ q) r.1;
          }
      by (serves y v' f'' u z m) later = absurd (let z : ◌≡◌ {A = ℕ} 2 3 = cc in omega arith)

  -- ---- from words to rows

  pub record RowsFor (x : ℕ) (ws : List ℕ) : Type 0 where
    pub rows : List ℕ
    pub trail : Trail Arcs Goal x rows
    pub words : spelled_rows s rows ≡ ws

  pub rows-for : (c : ℕ) (cs : List ℕ) (v x : ℕ) → Goes c cs v → x < (header_of s).nodes → node_key_at s x ≡ category c → RowsFor x (c ∷ 0 ∷ tail_words cs v)
  unfolding spelled_rows
  rows-for c [] v x w l e =
      let a = right-arc s acc seat side d x c v l e (and_left (right g side c d v) _ w) in
      let b = applies-arc s acc seat side d a.row d v f a.inside a.names (and_right (right g side c d v) _ w) in
      let z : b.row ≡ rf = same_row s acc seat side d b.row rf (folio f) b.inside inside b.names is-folio in
      record {
        rows = x ∷ a.row ∷ b.row ∷ [];
        trail = goes a.arc (goes b.arc (ends z));
        words = row_words_lem s x 2 c 0 (a.row ∷ b.row ∷ []) e ∙ ap (λ (q : List ℕ). c ∷ 0 ∷ q) (row_words_lem s a.row 3 d v (b.row ∷ []) a.names ∙ ap (λ (q : List ℕ). d ∷ v ∷ q) (row_words_lem s b.row 4 f 0 [] b.names));
      }
  rows-for c (b ∷ cs) v x w l e =
      let a = step-arc s acc seat side d x c b l e w.0 in
      let r = rows-for b cs v a.row w.1 a.inside a.names in
      record { rows = x ∷ r.rows; trail = goes a.arc r.trail; words = row_words_lem s x 2 c 0 r.rows e ∙ ap (λ (q : List ℕ). c ∷ 0 ∷ q) r.words }

  -- ---- from the person on

  pub record FromPerson (p : ℕ) (rows : List ℕ) : Type 0 where
    pub start : ℕ
    pub categories : List ℕ
    pub variant : ℕ
    pub assigned : member g p start ≡ true
    pub walks : Goes start categories variant
    pub words : spelled_rows s rows ≡ spell p (start ∷ categories) d variant f

  pub person-read : (x p : ℕ) (rows : List ℕ) → node_key_at s x ≡ person p → Trail Arcs Goal x rows → FromPerson p rows
  unfolding spell
  person-read x p rows e (ends t) = absurd (let q : person p ≡ folio f = sym e ∙ ap (node_key_at s) t ∙ is-folio in let z : ◌≡◌ {A = ℕ} 1 4 = cc in omega arith)
  person-read x p rows e (goes {b = b} {l = l} st w) = by (link-of s acc seat side d some x b st)
    where
      by : Link s acc seat side d x b → FromPerson p (x ∷ l)
      by (joins p' c u y m) =
          let a : p' ≡ p = cc in
          let r = trail-read b c l y w in
          record {
            start = c;
            categories = r.categories;
            variant = r.variant;
            assigned = subst (λ (q : ℕ). member g q c ≡ true) a m;
            walks = r.walks;
            words = row_words_lem s x 1 p 0 l e ∙ ap (λ (q : List ℕ). p ∷ 0 ∷ q) r.words;
          }
      by (climbs c c' u y m) = absurd (let z : ◌≡◌ {A = ℕ} 2 1 = cc in omega arith)
      by (gives-right c v u y m) = absurd (let z : ◌≡◌ {A = ℕ} 2 1 = cc in omega arith)
      by (serves y v f'' u z m) = absurd (let z : ◌≡◌ {A = ℕ} 3 1 = cc in omega arith)

  leads-walk : (c : ℕ) (cs : List ℕ) (v : ℕ) → leads (step g side) (carries g side d v f) c cs ≡ true → Goes c cs v
  unfolding leads
  leads-walk c [] v e = e
  leads-walk c (b ∷ cs) v e = let q = first_step (step g side) (carries g side d v f) c b cs e in (q.0, leads-walk b cs v q.2)

  pub lay-path : (x p : ℕ) (cs : List ℕ) (v : ℕ) → x < (header_of s).nodes → node_key_at s x ≡ person p → path g side p d f cs v ≡ true → RowsFor x (spell p cs d v f)
  unfolding path spell spelled_rows
  lay-path x p [] v l e q = absurd (false≢true q)
  lay-path x p (c ∷ cs) v l e q =
      let a = member-arc s acc seat side d x p c l e (and_left (member g p c) _ q) in
      let r = rows-for c cs v a.row (leads-walk c cs v (and_right (member g p c) _ q)) a.inside a.names in
      record { rows = x ∷ r.rows; trail = goes a.arc r.trail; words = row_words_lem s x 1 p 0 r.rows e ∙ ap (λ (w : List ℕ). p ∷ 0 ∷ w) r.words }

  -- ---- there is a path exactly if there is a trail

  reach-end : (c : ℕ) (cs : List ℕ) (v : ℕ) → Goes c cs v → (c' : ℕ) × Reach (step g side) c c' × (carries g side d v f c' ≡ true)
  reach-end c [] v w = (c, here, w)
  reach-end c (b ∷ cs) v w = let r = reach-end b cs v w.1 in (r.0, more w.0 r.1, r.2)

  pub trail-path : (x p : ℕ) (rows : List ℕ) → node_key_at s x ≡ person p → Trail Arcs Goal x rows → HasPath g side p d f
  trail-path x p rows e t =
      let r = person-read x p rows e t in
      let q = reach-end r.start r.categories r.variant r.walks in
      let w = shortened (step g side) (carries g side d r.variant f) q.1 q.2 in
      has-path g side p d f (record { start = r.start; by = w.by; variant = r.variant; assigned = r.assigned; leads-on = w.leads-on })

  pub path-trail : (x p : ℕ) (ws : List ℕ) → x < (header_of s).nodes → node_key_at s x ≡ person p → is_path g side p d f ws ≡ true → RowsFor x ws
  path-trail x p ws l e q =
      let r = spelt g side p d f ws q in
      subst (RowsFor x) (sym r.words) (lay-path x p r.categories r.variant l e r.leads-on)

  -- ---- a shortest walk is a path: it repeats no category

  suffix : (c b : ℕ) (cs : List ℕ) (v : ℕ) → among c (b ∷ cs) ≡ true → Goes b cs v → (cs' : List ℕ) × Goes c cs' v × (length cs' ≤ length cs)
  suffix c b [] v m w = go (or_cases (eqb c b) false m)
    where
      go : (eqb c b ≡ true) ⊎ (false ≡ true) → (cs' : List ℕ) × Goes c cs' v × (length cs' ≤ 0)
      go (inl e) = ([], subst (λ (q : ℕ). Goes q [] v) (sym (eqb-true c b e)) w, omega arith)
      go (inr e) = absurd (false≢true e)
  suffix c b (x ∷ cs) v m w = go (or_cases (eqb c b) (among c (x ∷ cs)) m) (λ m'. suffix c x cs v m' w.1)
    where
      go : (eqb c b ≡ true) ⊎ (among c (x ∷ cs) ≡ true) → (among c (x ∷ cs) ≡ true → (cs' : List ℕ) × Goes c cs' v × (length cs' ≤ length cs)) → (cs' : List ℕ) × Goes c cs' v × (length cs' ≤ suc (length cs))
      go (inl e) later = (x ∷ cs, subst (λ (q : ℕ). Goes q (x ∷ cs) v) (sym (eqb-true c b e)) w, omega arith)
      go (inr e) later = let r = later e in (r.0, r.1, let h = r.2 in omega arith)

  abbrev pub Fewest : ℕ → List ℕ → Type 0
  Fewest c cs = (cs' : List ℕ) (v : ℕ) → Goes c cs' v → length cs ≤ length cs'

  pub short-leads : (c : ℕ) (cs : List ℕ) (v : ℕ) → Goes c cs v → Fewest c cs → leads (step g side) (carries g side d v f) c cs ≡ true
  unfolding leads
  short-leads c [] v w h = w
  short-leads c (b ∷ cs) v w h =
      both w.0 (both (ap not (apart (either (among c (b ∷ cs))))) (short-leads b cs v w.1 (λ cs' v' u. let z = h (b ∷ cs') v' (w.0, u) in omega arith)))
    where
      apart : (among c (b ∷ cs) ≡ true) ⊎ (among c (b ∷ cs) ≡ false) → among c (b ∷ cs) ≡ false
      apart (inl m) = let r = suffix c b cs v m w.1 in let z = h r.0 v r.1 in let y = r.2 in absurd (omega arith)
      apart (inr m) = m
