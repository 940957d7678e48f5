-- What a row does to what the table says. Assumes nothing.
use Prim.Native.Nat.{ℕ, suc, ◌+◌, ◌≤◌, ◌<◌}
use mathlib.Core.Path.{◌≡◌, refl, sym, ap, ◌∙◌}
use mathlib.Core.Bool.{Bool, true, false, cond, ◌&&◌, ◌||◌, or-true, or-false}
use mathlib.Core.List.{List, [], ◌∷◌}
use native.Mathlib.Omega.{arith}
use lib.ListN.{length, set}
use lib.Dec.{ltb, eqb}
use borrow.Author.Tests.{eq-eqb, ne_eqb, eqb-true, eqb-false, lt-ltb, le-ltb, ltb-true, ltb-false}
use Rattle.watch.specs.History.{repeats, changed, some, starts_folio, ends_folio}
use Rattle.watch.specs.WatchTable.{covers_minute, names_folio, place_held, empty_place, turned_by, place_after, fresh, free_at, doubled, Timed}
use Rattle.watch.specs.declared.TraceRow.{TraceRow}
use Rattle.watch.specs.declared.Emergency.{Emergency}
use Rattle.watch.proofs.Tests.{by_cases, not-true-is, true-and-false, eqb_same, or-false-left, or-false-right, some-changed, some_mono}
use Rattle.watch.proofs.Past.{starts-true, starts-kind, starts-folio, ends-both, ends-not}

abbrev again : TraceRow → Emergency → Emergency
again r p = record { mark = p.mark; folio = p.folio; latest = r.minute; earlier = p.latest }

-- the place after a row, by its seven cases
module _ (r : TraceRow) (timeout : ℕ) (p : Emergency) (P : Emergency → Type 0) where
  turn-cases : (p.folio ≡ r.folio → r.kind ≡ 2 → P empty_place) → (p.folio ≡ r.folio → r.kind ≡ 1 → p.latest < r.minute → P (again r p)) → (p.folio ≡ r.folio → r.kind ≡ 1 → r.minute ≤ p.latest → P p)
      → (p.folio ≡ r.folio → (r.kind ≡ 2 → ⊥) → (r.kind ≡ 1 → ⊥) → P p) → p.folio ≡ r.folio → P (turned_by r p)
  unfolding turned_by
  turn-cases ended more same idle o =
      by_cases (eqb r.kind 2) (λ e. rw e (ended o (eqb-true _ _ e)))
      (λ e. rw e (by_cases (eqb r.kind 1)
      (λ k. rw k (by_cases (ltb p.latest r.minute) (λ l. rw l (more o (eqb-true _ _ k) (ltb-true _ _ l))) (λ l. rw l (same o (eqb-true _ _ k) (ltb-false _ _ l)))))
      (λ k. rw k (idle o (eqb-false _ _ e) (eqb-false _ _ k)))))

  after-cases : (p.mark ≡ 0 → P empty_place) → (p.latest + timeout ≤ r.minute → P empty_place) → ((p.mark ≡ 0 → ⊥) → r.minute < p.latest + timeout → (p.folio ≡ r.folio → ⊥) → P p)
      → ((p.mark ≡ 0 → ⊥) → r.minute < p.latest + timeout → p.folio ≡ r.folio → P (turned_by r p)) → P (place_after r timeout p)
  unfolding place_after
  after-cases empty_watch gone other own =
      by_cases (eqb p.mark 0) (λ e. rw e (empty_watch (eqb-true _ _ e)))
      (λ e. rw e (by_cases (ltb r.minute (p.latest + timeout))
      (λ l. rw l (by_cases (eqb p.folio r.folio) (λ o. rw o (own (eqb-false _ _ e) (ltb-true _ _ l) (eqb-true _ _ o))) (λ o. rw o (other (eqb-false _ _ e) (ltb-true _ _ l) (eqb-false _ _ o)))))
      (λ l. rw l (gone (ltb-false _ _ l)))))

module _ (f : ℕ) (p : Emergency) where
  named-folio : names_folio f p ≡ true → f ≡ p.folio
  unfolding names_folio
  named-folio e = by_cases (eqb p.mark 0) (λ x. true-and-false true refl (sym (rw x at e))) (λ x. eqb-true _ _ (rw x at e))

  folio-named : (p.mark ≡ 0 → ⊥) → f ≡ p.folio → names_folio f p ≡ true
  unfolding names_folio
  folio-named n e = rw (ne_eqb _ _ n, eq-eqb _ _ e) refl

  unnamed-mark : p.mark ≡ 0 → names_folio f p ≡ false
  unfolding names_folio
  unnamed-mark e = rw (eq-eqb _ _ e) refl

  unnamed-folio : (f ≡ p.folio → ⊥) → names_folio f p ≡ false
  unnamed-folio n = not-true-is (names_folio f p) (λ e. n (named-folio e))

module _ (b t timeout f : ℕ) where
  unnamed-held : (p : Emergency) → names_folio f p ≡ false → place_held b t timeout f p ≡ false
  unfolding place_held
  unnamed-held p e = rw e refl

  covers-gone : (m : ℕ) → m + timeout ≤ t → covers_minute m b t timeout ≡ false
  unfolding covers_minute
  covers-gone m h = rw (le-ltb t (m + timeout) h) refl

  dead : (p : Emergency) → p.latest + timeout ≤ t → p.earlier ≤ p.latest → place_held b t timeout f p ≡ false
  unfolding place_held
  dead p h g = rw (covers-gone p.latest h, covers-gone p.earlier (omega arith)) (by_cases (names_folio f p) (λ x. rw x refl) (λ x. rw x refl))

  covers-later : (m n : ℕ) → m ≤ n → n < b → covers_minute m b t timeout ≡ true → covers_minute n b t timeout ≡ true
  unfolding covers_minute
  covers-later m n h g e =
      by_cases (ltb t (m + timeout)) (λ x. let l : t < m + timeout = ltb-true _ _ x in rw (lt-ltb t (n + timeout) (omega arith), lt-ltb n b g) refl) (λ x. true-and-false true refl (sym (rw x at e)))

  covers-same : (m n : ℕ) → m ≡ n → covers_minute m b t timeout ≡ covers_minute n b t timeout
  covers-same m n e = ap (λ x. covers_minute x b t timeout) e

  held-empty : place_held b t timeout f empty_place ≡ false
  unfolding place_held names_folio
  held-empty = refl

  named-held : (p : Emergency) → names_folio f p ≡ true → place_held b t timeout f p ≡ cond (covers_minute p.latest b t timeout) true (covers_minute p.earlier b t timeout)
  unfolding place_held
  named-held p e = rw e refl

names-empty : (f : ℕ) → names_folio f empty_place ≡ false
unfolding names_folio
names-empty f = refl

names-again : (f : ℕ) (r : TraceRow) (p : Emergency) → names_folio f (again r p) ≡ names_folio f p
unfolding names_folio
names-again f r p = refl

more_by : (m l e : Bool) → (e ≡ true → l ≡ true) → cond m true l ≡ cond l true e || m
more_by true true e h = refl
more_by true false e h = sym (or-true e)
more_by false true e h = refl
more_by false false true h = h refl
more_by false false false h = refl

same-start-by : (l e : Bool) → cond l true e ≡ cond l true e || l
same-start-by true e = refl
same-start-by false e = sym (or-false e)

-- the row adds to what the table says: its own start, in a place that names its folio
module _ (r : TraceRow) (timeout b t f : ℕ) (p : Emergency) where
  abbrev GrowsBy : Emergency → Type 0
  GrowsBy q = place_held b t timeout f q ≡ place_held b t timeout f p || (names_folio f q && (starts_folio f r && covers_minute r.minute b t timeout))

  vanish : place_held b t timeout f p ≡ false → GrowsBy empty_place
  vanish e = rw (held-empty b t timeout f, names-empty f, e) refl

  kept-place : (names_folio f p ≡ true → starts_folio f r ≡ false) → GrowsBy p
  kept-place h = by_cases (names_folio f p) (λ x. rw (x, h x) (sym (or-false (place_held b t timeout f p)))) (λ x. rw x (sym (or-false (place_held b t timeout f p))))

  own-start : p.folio ≡ r.folio → r.kind ≡ 1 → names_folio f p ≡ true → starts_folio f r ≡ true
  own-start o k x = starts-true f r k (named-folio f p x ∙ o)

  more : r.minute ≤ b → p.earlier ≤ p.latest → p.folio ≡ r.folio → r.kind ≡ 1 → p.latest < r.minute → GrowsBy (again r p)
  more mb g o k l =
      by_cases (names_folio f p)
      (λ x. rw (named-held b t timeout f p x, named-held b t timeout f (again r p) (names-again f r p ∙ x), names-again f r p, x, own-start o k x)
      (more_by (covers_minute r.minute b t timeout) (covers_minute p.latest b t timeout) (covers_minute p.earlier b t timeout) (covers-later b t timeout f p.earlier p.latest g (omega arith))))
      (λ x. rw (unnamed-held b t timeout f p x, unnamed-held b t timeout f (again r p) (names-again f r p ∙ x), names-again f r p, x) refl)

  same : p.latest ≤ r.minute → p.folio ≡ r.folio → r.kind ≡ 1 → r.minute ≤ p.latest → GrowsBy p
  same lm o k l =
      by_cases (names_folio f p)
      (λ x. rw (named-held b t timeout f p x, x, own-start o k x, covers-same b t timeout f r.minute p.latest (omega arith)) (same-start-by (covers_minute p.latest b t timeout) (covers_minute p.earlier b t timeout)))
      (λ x. rw (unnamed-held b t timeout f p x, x) refl)

  grow-place : r.minute ≤ b → r.minute ≤ t → p.latest ≤ r.minute → p.earlier ≤ p.latest → ends_folio f r ≡ false → GrowsBy (place_after r timeout p)
  grow-place mb mt lm g e =
      after-cases r timeout p GrowsBy (λ z. vanish (unnamed-held b t timeout f p (unnamed-mark f p z))) (λ z. vanish (dead b t timeout f p (omega arith) g))
      (λ _ _ n. kept-place (λ x. starts-folio f r (λ k. n (sym (named-folio f p x) ∙ k))))
      (λ _ _ o. turn-cases r timeout p GrowsBy (λ o k. vanish (unnamed-held b t timeout f p (unnamed-folio f p (λ x. ends-not f r e k (x ∙ o))))) (more mb g) (same lm) (λ _ _ k. kept-place (λ _. starts-kind f r k)) o)

  end-place : ends_folio f r ≡ true → place_held b t timeout f (place_after r timeout p) ≡ false
  end-place e =
      let k : r.kind ≡ 2 = (ends-both f r e).0 in
      after-cases r timeout p (λ q. place_held b t timeout f q ≡ false) (λ _. held-empty b t timeout f) (λ _. held-empty b t timeout f)
      (λ _ _ n. unnamed-held b t timeout f p (unnamed-folio f p (λ x. n (sym x ∙ (ends-both f r e).1))))
      (λ _ _ o. turn-cases r timeout p (λ q. place_held b t timeout f q ≡ false) (λ _ _. held-empty b t timeout f) (λ _ j _. absurd (omega arith)) (λ _ j _. absurd (omega arith)) (λ _ j _. absurd (j k)) o)

module _ (r : TraceRow) (timeout : ℕ) (p : Emergency) where
  names-back : (f : ℕ) → names_folio f (place_after r timeout p) ≡ true → names_folio f p ≡ true
  names-back f =
      after-cases r timeout p (λ q. names_folio f q ≡ true → names_folio f p ≡ true) (λ _ e. true-and-false (names_folio f empty_place) e (names-empty f)) (λ _ e. true-and-false (names_folio f empty_place) e (names-empty f)) (λ _ _ _ e. e)
      (λ _ _ o. turn-cases r timeout p (λ q. names_folio f q ≡ true → names_folio f p ≡ true) (λ _ _ e. true-and-false (names_folio f empty_place) e (names-empty f)) (λ _ _ _ e. sym (names-again f r p) ∙ e) (λ _ _ _ e. e) (λ _ _ _ e. e) o)

  timed-place : p.latest ≤ r.minute → p.earlier ≤ p.latest → ((place_after r timeout p).latest ≤ r.minute) × ((place_after r timeout p).earlier ≤ (place_after r timeout p).latest)
  timed-place lm g =
      after-cases r timeout p (λ q. (q.latest ≤ r.minute) × (q.earlier ≤ q.latest)) (λ _. (omega arith, omega arith)) (λ _. (omega arith, omega arith)) (λ _ _ _. (lm, g))
      (λ _ _ o. turn-cases r timeout p (λ q. (q.latest ≤ r.minute) × (q.earlier ≤ q.latest)) (λ _ _. (omega arith, omega arith)) (λ _ _ l. (omega arith, omega arith)) (λ _ _ _. (lm, g)) (λ _ _ _. (lm, g)) o)

  -- a used place is held at the row's minute
  live-held : (f : ℕ) (q : Emergency) → r.minute < q.latest + timeout → q.latest ≤ r.minute → place_held (suc r.minute) r.minute timeout f q ≡ names_folio f q
  unfolding place_held covers_minute
  live-held f q l h = rw (lt-ltb r.minute (q.latest + timeout) l, lt-ltb q.latest (suc r.minute) (omega arith)) (by_cases (names_folio f q) (λ x. rw x refl) (λ x. rw x refl))

  live-place : (f : ℕ) → p.latest ≤ r.minute → place_held (suc r.minute) r.minute timeout f (place_after r timeout p) ≡ names_folio f (place_after r timeout p)
  live-place f lm =
      let none : place_held (suc r.minute) r.minute timeout f empty_place ≡ names_folio f empty_place = held-empty (suc r.minute) r.minute timeout f ∙ sym (names-empty f) in
      after-cases r timeout p (λ q. place_held (suc r.minute) r.minute timeout f q ≡ names_folio f q) (λ _. none) (λ _. none) (λ _ l _. live-held f p l lm)
      (λ _ l o. turn-cases r timeout p (λ q. place_held (suc r.minute) r.minute timeout f q ≡ names_folio f q) (λ _ _. none) (λ _ _ j. live-held f (again r p) (omega arith) (omega arith)) (λ _ _ _. live-held f p l lm) (λ _ _ _. live-held f p l lm) o)

merge : (a n x y c : Bool) → a || (n && c) || (x || (y && c)) ≡ a || x || ((n || y) && c)
merge true n x y c = refl
merge false true x y true = sym (or-true x)
merge false true x true false = refl
merge false true x false false = refl
merge false false x y c = refl

doubled-tail : (p : Emergency) (ps : List Emergency) → doubled (p ∷ ps) ≡ false → doubled ps ≡ false
unfolding doubled
doubled-tail p ps e = by_cases (eqb p.mark 0) (λ x. rw x at e) (λ x. or-false-right (some (names_folio p.folio) ps) (doubled ps) (rw x at e))

doubled-head : (p : Emergency) (ps : List Emergency) → (p.mark ≡ 0 → ⊥) → doubled (p ∷ ps) ≡ false → some (names_folio p.folio) ps ≡ false
unfolding doubled
doubled-head p ps n e = or-false-left (some (names_folio p.folio) ps) (doubled ps) (rw (ne_eqb _ _ n) at e)

-- the places after a row, along the table
module _ (r : TraceRow) (timeout n : ℕ) (later : n ≤ r.minute) where
  pub grow : (b t f : ℕ) → r.minute ≤ b → r.minute ≤ t → ends_folio f r ≡ false → (ps : List Emergency) → Timed n ps
      → some (place_held b t timeout f) (changed (place_after r timeout) ps) ≡ some (place_held b t timeout f) ps || (some (names_folio f) (changed (place_after r timeout) ps) && (starts_folio f r && covers_minute r.minute b t timeout))
  unfolding some Timed
  grow b t f mb mt e [] h = refl
  grow b t f mb mt e (p ∷ ps) h =
      rw (grow-place r timeout b t f p mb mt (omega arith) h.1 e, grow b t f mb mt e ps h.2)
      (merge (place_held b t timeout f p) (names_folio f (place_after r timeout p)) (some (place_held b t timeout f) ps) (some (names_folio f) (changed (place_after r timeout) ps)) (starts_folio f r && covers_minute r.minute b t timeout))

  pub ended : (b t f : ℕ) → ends_folio f r ≡ true → (ps : List Emergency) → some (place_held b t timeout f) (changed (place_after r timeout) ps) ≡ false
  unfolding some
  ended b t f e [] = refl
  ended b t f e (p ∷ ps) = rw (end-place r timeout b t f p e) (ended b t f e ps)

  pub timed-after : (ps : List Emergency) → Timed n ps → Timed r.minute (changed (place_after r timeout) ps)
  unfolding Timed
  timed-after [] h = tt
  timed-after (p ∷ ps) h = let g = timed-place r timeout p (omega arith) h.1 in (g.0, g.1, timed-after ps h.2)

  pub lively : (f : ℕ) (ps : List Emergency) → Timed n ps → some (place_held (suc r.minute) r.minute timeout f) (changed (place_after r timeout) ps) ≡ some (names_folio f) (changed (place_after r timeout) ps)
  unfolding some Timed
  lively f [] h = refl
  lively f (p ∷ ps) h = rw (live-place r timeout p f (omega arith), lively f ps h.2) refl

  named_back : (f : ℕ) (ps : List Emergency) → some (names_folio f) ps ≡ false → some (names_folio f) (changed (place_after r timeout) ps) ≡ false
  named_back f ps e =
      not-true-is (some (names_folio f) (changed (place_after r timeout) ps))
      (λ x. true-and-false (some (names_folio f) ps) (some_mono (λ p. names_folio f (place_after r timeout p)) (names_folio f) ps (λ p. names-back r timeout p f) (sym (some-changed (names_folio f) (place_after r timeout) ps) ∙ x)) e)

  pub once_after : (ps : List Emergency) → doubled ps ≡ false → doubled (changed (place_after r timeout) ps) ≡ false
  unfolding doubled names_folio
  once_after [] e = refl
  once_after (p ∷ ps) e =
      by_cases (eqb (place_after r timeout p).mark 0)
      (λ x. rw x (once_after ps (doubled-tail p ps e)))
      (λ x. rw x
      (let k : names_folio (place_after r timeout p).folio p ≡ true = names-back r timeout p (place_after r timeout p).folio (rw (x, eqb_same (place_after r timeout p).folio) refl) in
      rw (named_back (place_after r timeout p).folio ps (rw (named-folio (place_after r timeout p).folio p k) (doubled-head p ps (λ z. true-and-false (names_folio (place_after r timeout p).folio p) k (unnamed-mark (place_after r timeout p).folio p z)) e))) (once_after ps (doubled-tail p ps e))))

-- a folio's first start, in the first empty place
or_swap : (a b c : Bool) → a || (b || c) ≡ b || (a || c)
or_swap true true c = refl
or_swap true false c = refl
or_swap false b c = refl

module _ (q : Emergency) where
  pub put_some : (t : Emergency → Bool) → ((p : Emergency) → p.mark ≡ 0 → t p ≡ false) → (ps : List Emergency) → free_at ps < length ps → some t (set ps (free_at ps) q) ≡ t q || some t ps
  unfolding some free_at
  put_some t empty_watch [] h = absurd (omega arith)
  put_some t empty_watch (p ∷ ps) h =
      by_cases (eqb p.mark 0) (λ e. rw (e, empty_watch p (eqb-true _ _ e)) refl)
      (λ e. rw (e, put_some t empty_watch ps (omega (arith, rw e at h))) (or_swap (t p) (t q) (some t ps)))

  pub put-timed : (n : ℕ) → q.latest ≤ n → q.earlier ≤ q.latest → (ps : List Emergency) → Timed n ps → Timed n (set ps (free_at ps) q)
  unfolding Timed free_at
  put-timed n l g [] h = tt
  put-timed n l g (p ∷ ps) h = by_cases (eqb p.mark 0) (λ e. rw e (l, g, h.2)) (λ e. rw e (h.0, h.1, put-timed n l g ps h.2))

  pub put-once : (q.mark ≡ 0 → ⊥) → (ps : List Emergency) → doubled ps ≡ false → some (names_folio q.folio) ps ≡ false → free_at ps < length ps → doubled (set ps (free_at ps) q) ≡ false
  unfolding doubled free_at some
  put-once m [] d e h = absurd (omega arith)
  put-once m (p ∷ ps) d e h =
      by_cases (eqb p.mark 0)
      (λ x. rw (x, ne_eqb _ _ m, or-false-right (names_folio q.folio p) (some (names_folio q.folio) ps) e) (doubled-tail p ps d))
      (λ x. rw (
        x,
        x,
        put_some (names_folio p.folio) (λ z. unnamed-mark p.folio z) ps (omega (arith, rw x at h)),
        unnamed-folio p.folio q (λ k. true-and-false (names_folio q.folio p) (folio-named q.folio p (eqb-false _ _ x) (sym k)) (or-false-left (names_folio q.folio p) (some (names_folio q.folio) ps) e)),
        doubled-head p ps (eqb-false _ _ x) d,
      )
      (put-once m ps (doubled-tail p ps d) (or-false-right (names_folio q.folio p) (some (names_folio q.folio) ps) e) (omega (arith, rw x at h))))

-- the folios that the table names
unfoldable pub names_of : List Emergency → List ℕ
names_of [] = []
names_of (p ∷ ps) = cond (eqb p.mark 0) (names_of ps) (p.folio ∷ names_of ps)

pub names-listed : (f : ℕ) (ps : List Emergency) → some (eqb f) (names_of ps) ≡ some (names_folio f) ps
unfolding names_of names_folio some
names-listed f [] = refl
names-listed f (p ∷ ps) = by_cases (eqb p.mark 0) (λ e. rw e (names-listed f ps)) (λ e. rw e (ap (λ x. eqb f p.folio || x) (names-listed f ps)))

pub names-once : (ps : List Emergency) → doubled ps ≡ repeats (names_of ps)
unfolding names_of doubled repeats
names-once [] = refl
names-once (p ∷ ps) = by_cases (eqb p.mark 0) (λ e. rw e (names-once ps)) (λ e. rw (e, names-listed p.folio ps) (ap (λ x. some (names_folio p.folio) ps || x) (names-once ps)))

pub names-few : (ps : List Emergency) → length (names_of ps) ≤ length ps
unfolding names_of
names-few [] = omega arith
names-few (p ∷ ps) = by_cases (eqb p.mark 0) (λ e. rw e (omega (arith, names-few ps))) (λ e. rw e (omega (arith, names-few ps)))

pub names-room : (ps : List Emergency) → free_at ps < length ps → length (names_of ps) < length ps
unfolding names_of free_at
names-room [] h = absurd (omega arith)
names-room (p ∷ ps) h = by_cases (eqb p.mark 0) (λ e. rw e (omega (arith, names-few ps))) (λ e. rw e (omega (arith, names-room ps (omega (arith, rw e at h)))))

pub names-full : (ps : List Emergency) → length ps ≤ free_at ps → length (names_of ps) ≡ length ps
unfolding names_of free_at
names-full [] h = refl
names-full (p ∷ ps) h = by_cases (eqb p.mark 0) (λ e. absurd (omega (arith, rw e at h))) (λ e. rw e (ap suc (names-full ps (omega (arith, rw e at h)))))

-- nothing is held once every start has expired
pub dead-all : (b t timeout f n : ℕ) → n + timeout ≤ t → (ps : List Emergency) → Timed n ps → some (place_held b t timeout f) ps ≡ false
unfolding some Timed
dead-all b t timeout f n l [] h = refl
dead-all b t timeout f n l (p ∷ ps) h = rw (dead b t timeout f p (omega arith) h.1) (dead-all b t timeout f n l ps h.2)

fresh-by : (x c : Bool) → cond x (cond c true c) false ≡ true && x && c
fresh-by true true = refl
fresh-by true false = refl
fresh-by false c = refl

pub fresh-held : (b t timeout f : ℕ) (r : TraceRow) → r.kind ≡ 1 → place_held b t timeout f (fresh r) ≡ starts_folio f r && covers_minute r.minute b t timeout
unfolding place_held names_folio starts_folio
fresh-held b t timeout f r k = rw (eq-eqb r.kind 1 k) (fresh-by (eqb f r.folio) (covers_minute r.minute b t timeout))

pub blank-held : (b t timeout f : ℕ) (p : Emergency) → p.mark ≡ 0 → place_held b t timeout f p ≡ false
blank-held b t timeout f p e = unnamed-held b t timeout f p (unnamed-mark f p e)
