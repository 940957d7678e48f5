-- A table that stands for the history of its rows is told, of a further row, what the history says, and then stands for the history with that row. Assumes nothing.
use Prim.Native.Nat.{ℕ, zero, suc, ◌+◌, ◌≤◌, ◌<◌}
use mathlib.Core.Path.{◌≡◌, refl, sym, ap, ◌∙◌}
use mathlib.Core.Bool.{Bool, true, false, ◌&&◌, ◌||◌, false≢true, or-true, or-false, and-false}
use mathlib.Core.List.{List, [], ◌∷◌, ◌++◌}
use native.Mathlib.Omega.{arith}
use lib.ListN.{length, set, length-set, replicate}
use lib.Dec.{ltb, eqb}
use borrow.Author.Tests.{eq-eqb, ne_eqb, eqb-true, eqb-false, lt-ltb, le-ltb, ltb-true, ltb-false}
use Rattle.sheet.specs.Refusals.{◌when◌otherwise◌}
use Rattle.watch.specs.History.{repeats, changed, some, starts_folio, ends_folio, held_before, holding, is_open, is_held, held_folios, last_from, bad_row, refusal, offices_for, routed, grown}
use Rattle.watch.specs.WatchTable.{covers_minute, names_folio, place_held, empty_place, place_after, fresh, free_at, doubled, refused_row, taken_row, started_row, entered, advanced, Timed, TableStands, empty_watch}
use Rattle.watch.specs.declared.TraceRow.{TraceRow}
use Rattle.watch.specs.declared.Emergency.{Emergency}
use Rattle.watch.specs.declared.Watch.{Watch}
use Rattle.watch.specs.WatchTable.{Moved}
use Rattle.paths.proofs.Tests.{and_left}
use Rattle.watch.proofs.Tests.{length-changed, by_cases, true-and-false}
use Rattle.watch.proofs.Past.{starts-true, starts-kind, starts_is, ends-kind, held-end, held_on, last_on, held-listed, held-once}
use Rattle.watch.proofs.Counting.{not-longer, nobody}
use Rattle.watch.proofs.Places.{grow, ended, timed-after, lively, once_after, put_some, put-timed, put-once, names_of, names-listed, names-once, names-few, names-room, names-full, dead-all, fresh-held, blank-held}

absorb : (x v n : Bool) → x || (v || (n && x)) ≡ v || x
absorb true v n = sym (or-true v)
absorb false v n = ap (λ z. v || z) (and-false n)

module _ (w : Watch) (h : List TraceRow) (timeout : ℕ) (r : TraceRow) (s : TableStands w h timeout) (later : w.last ≤ r.minute) where
  -- the places after the row, and the history with it
  abbrev ps : List Emergency
  ps = changed (place_after r timeout) w.places

  abbrev h' : List TraceRow
  h' = h ++ (r ∷ [])

  size' : length ps ≡ 32
  size' = length-changed (place_after r timeout) w.places ∙ s.size

  timed' : Timed r.minute ps
  timed' = timed-after r timeout w.last later w.places s.timed

  once' : doubled ps ≡ false
  once' = once_after r timeout w.last later w.places s.once

  places-say : (f b t : ℕ) → r.minute ≤ b → r.minute ≤ t → ends_folio f r ≡ false
      → some (place_held b t timeout f) ps ≡ held_before b h f t timeout || (some (names_folio f) ps && (starts_folio f r && covers_minute r.minute b t timeout))
  places-say f b t mb mt e = rw (← (s.same f b t (omega arith) (omega arith))) (grow r timeout w.last later b t f mb mt e w.places s.timed)

  stand : (qs : List Emergency) → length qs ≡ 32 → doubled qs ≡ false → Timed r.minute qs
      → ((f b t : ℕ) → r.minute ≤ b → r.minute ≤ t → some (place_held b t timeout f) qs ≡ held_before b h' f t timeout) → TableStands (record { last = r.minute; places = qs }) h' timeout
  stand qs l o m e = record { size = l; last = sym (last_on 0 h r); once = o; timed = m; same = e }

  quiet_by : (v n x c : Bool) → (x ≡ true → n ≡ true) → v || (n && (x && c)) ≡ v || (x && c)
  quiet_by v n true c e = rw (e refl) refl
  quiet_by v n false c e = ap (λ z. v || z) (and-false n)

  -- a row that starts nothing new
  quiet : ((f : ℕ) → starts_folio f r ≡ true → some (names_folio f) ps ≡ true) → TableStands (record { last = r.minute; places = ps }) h' timeout
  quiet n =
      stand ps size' once' timed'
      (λ f b t mb mt. by_cases (ends_folio f r)
      (λ e. ended r timeout w.last later b t f e w.places ∙ sym (held-end f t timeout r b h e))
      (λ e. places-say f b t mb mt e ∙ quiet_by (held_before b h f t timeout) (some (names_folio f) ps) (starts_folio f r) (covers_minute r.minute b t timeout) (n f) ∙ sym (held_on f t timeout r b h e)))

  -- a folio's first start, with room
  first : r.kind ≡ 1 → some (names_folio r.folio) ps ≡ false → free_at ps < length ps → TableStands (record { last = r.minute; places = set ps (free_at ps) (fresh r) }) h' timeout
  first k n room =
      stand (set ps (free_at ps) (fresh r)) (length-set ps (free_at ps) (fresh r) ∙ size') (put-once (fresh r) (λ z. omega arith) ps once' n room) (put-timed (fresh r) r.minute (omega arith) (omega arith) ps timed')
      (λ f b t mb mt.
      let e : ends_folio f r ≡ false = ends-kind f r (λ z. omega arith) in
      put_some (fresh r) (place_held b t timeout f) (λ p. blank-held b t timeout f p) ps room
      ∙ rw (fresh-held b t timeout f r k, places-say f b t mb mt e, held_on f t timeout r b h e) (absorb (starts_folio f r && covers_minute r.minute b t timeout) (held_before b h f t timeout) (some (names_folio f) ps)))

  -- how many are held at the row's minute, of a start
  abbrev held : List ℕ
  held = held_folios h' r.minute timeout

  module _ (k : r.kind ≡ 1) where
    heard : (f : ℕ) → some (eqb f) held ≡ held_before (suc r.minute) h f r.minute timeout || (starts_folio f r && covers_minute r.minute (suc r.minute) r.minute timeout)
    unfolding is_held
    heard f = held-listed r.minute timeout h' f ∙ held_on f r.minute timeout r (suc r.minute) h (ends-kind f r (λ z. omega arith))

    noted : (f : ℕ) → some (names_folio f) ps ≡ held_before (suc r.minute) h f r.minute timeout || (some (names_folio f) ps && (starts_folio f r && covers_minute r.minute (suc r.minute) r.minute timeout))
    noted f = sym (lively r timeout w.last later f w.places s.timed) ∙ places-say f (suc r.minute) r.minute (omega arith) (omega arith) (ends-kind f r (λ z. omega arith))

    within_by : (v n x c : Bool) → n ≡ v || (n && (x && c)) → n ≡ false → v || (x && c) ≡ true → x ≡ true
    within_by true n x c e z g = true-and-false n e z
    within_by false n x c e z g = and_left x c g

    within : (f : ℕ) → some (eqb f) held ≡ true → some (names_folio f) ps ≡ false → f ≡ r.folio
    within f e n = starts_is f r (within_by (held_before (suc r.minute) h f r.minute timeout) (some (names_folio f) ps) (starts_folio f r) (covers_minute r.minute (suc r.minute) r.minute timeout) (noted f) n (sym (heard f) ∙ e))

    few-named : some (names_folio r.folio) ps ≡ true → length held ≤ 32
    few-named n =
        let l : length held ≤ length (names_of ps) = not-longer held (names_of ps) (held-once r.minute timeout h')
        (λ f e. names-listed f ps ∙ by_cases (some (names_folio f) ps) (λ x. x) (λ x. true-and-false (some (names_folio f) ps) (rw (within f e x) n) x)) in
        omega (arith, names-few ps, size')

    few-room : free_at ps < length ps → length held ≤ 32
    unfolding some
    few-room room =
        let l : length held ≤ length (r.folio ∷ names_of ps) = not-longer held (r.folio ∷ names_of ps) (held-once r.minute timeout h')
        (λ f e. by_cases (some (names_folio f) ps) (λ x. rw (names-listed f ps, x) (or-true (eqb f r.folio))) (λ x. rw (eq-eqb f r.folio (within f e x)) refl)) in
        omega (arith, names-room ps room, size')

    -- a full table holds something, so the timeout is not 0
    some-time : length ps ≤ free_at ps → 0 < timeout
    some-time full =
        by_cases (ltb 0 timeout) (λ x. ltb-true _ _ x)
        (λ x. absurd (omega (
          arith,
          names-full ps full,
          size',
          nobody (names_of ps) (λ f. names-listed f ps ∙ sym (lively r timeout w.last later f w.places s.timed) ∙ dead-all (suc r.minute) r.minute timeout f r.minute (omega (arith, ltb-false 0 timeout x)) ps timed'),
        )))

    many_by : (v n z : Bool) → n ≡ true → n ≡ v || (n && z) → v || z ≡ true
    many_by v true z m e = sym e
    many_by v false z m e = absurd (false≢true m)

    many : some (names_folio r.folio) ps ≡ false → length ps ≤ free_at ps → 32 < length held
    unfolding some repeats covers_minute
    many n full =
        let l : length (r.folio ∷ names_of ps) ≤ length held = not-longer (r.folio ∷ names_of ps) held (rw (names-listed r.folio ps, n) (sym (names-once ps) ∙ once'))
        (λ f e. heard f ∙ by_cases (eqb f r.folio)
        (λ x. rw (starts-true f r k (eqb-true _ _ x), lt-ltb r.minute (r.minute + timeout) (omega (arith, some-time full)), lt-ltb r.minute (suc r.minute) (omega arith)) (or-true (held_before (suc r.minute) h f r.minute timeout)))
        (λ x. let m : some (names_folio f) ps ≡ true = sym (names-listed f ps) ∙ (rw x at e) in many_by (held_before (suc r.minute) h f r.minute timeout) (some (names_folio f) ps) (starts_folio f r && covers_minute r.minute (suc r.minute) r.minute timeout) m (noted f))) in
        omega (arith, names-full ps full, size')

  -- what refuses the row, by the count
  refusal_is : bad_row r ≡ false → (v : Bool) → eqb r.kind 1 && ltb 32 (length held) ≡ v → refusal h r timeout ≡ (51 when v otherwise 0)
  unfolding refusal ◌when◌otherwise◌
  refusal_is g v e = rw (le-ltb r.minute (last_from 0 h) (omega (arith, s.last)), g, e) refl

  -- no start: never 51
  refusal-none : bad_row r ≡ false → eqb r.kind 1 && ltb 32 (length held) ≡ false → refusal h r timeout ≡ 0
  unfolding ◌when◌otherwise◌
  refusal-none g e = refusal_is g false e

  refusal-many : bad_row r ≡ false → eqb r.kind 1 && ltb 32 (length held) ≡ true → refusal h r timeout ≡ 51
  unfolding ◌when◌otherwise◌
  refusal-many g e = refusal_is g true e

module _ (w : Watch) (h : List TraceRow) (timeout : ℕ) (r : TraceRow) where
  -- the row was told what the history says, and the table stands for the history with it
  abbrev pub Right : Moved → Type 0
  Right m = (m.routed ≡ routed h r timeout) × TableStands m.watch (grown h r timeout) timeout

  right-refused : (k : ℕ) → TableStands w h timeout → refusal h r timeout ≡ k → (k ≡ 0 → ⊥) → Right (refused_row w k)
  unfolding refused_row routed grown
  right-refused k s e z = rw (e, ne_eqb k 0 z) (refl, s)

  right-taken : (qs : List Emergency) (n : ℕ) → refusal h r timeout ≡ 0 → n ≡ offices_for r (held_before r.minute h r.folio r.minute timeout) → TableStands (record { last = r.minute; places = qs }) (h ++ (r ∷ [])) timeout → Right (taken_row r qs n)
  unfolding taken_row routed grown is_open
  right-taken qs n e k s = rw (e, k) (refl, s)

  nowhere : (b : Bool) → (r.kind ≡ 3 → ⊥) → 0 ≡ offices_for r b
  unfolding offices_for
  nowhere b k = rw (ne_eqb r.kind 3 k) refl

  module _ (s : TableStands w h timeout) (later : w.last ≤ r.minute) (good : bad_row r ≡ false) where
    abbrev ps' : List Emergency
    ps' = changed (place_after r timeout) w.places

    right-started : r.kind ≡ 1 → Right (started_row w r ps')
    unfolding started_row
    right-started k =
        let q : 0 ≡ offices_for r (held_before r.minute h r.folio r.minute timeout) = nowhere _ (λ z. omega arith) in
        by_cases (some (names_folio r.folio) ps')
        (λ n. rw n (right-taken ps' 0 (refusal-none w h timeout r s later good (rw (eq-eqb r.kind 1 k) (le-ltb 32 _ (few-named w h timeout r s later k n)))) q
        (quiet w h timeout r s later (λ f x. rw (starts_is f r x) n))))
        (λ n. rw n (by_cases (ltb (free_at ps') 32)
        (λ l. let room : free_at ps' < length ps' = omega (arith, ltb-true (free_at ps') 32 l, size' w h timeout r s later) in
        rw l (right-taken (set ps' (free_at ps') (fresh r)) 0 (refusal-none w h timeout r s later good (rw (eq-eqb r.kind 1 k) (le-ltb 32 _ (few-room w h timeout r s later k room)))) q (first w h timeout r s later k n room)))
        (λ l. let full : length ps' ≤ free_at ps' = omega (arith, ltb-false (free_at ps') 32 l, size' w h timeout r s later) in
        rw l (right-refused 51 s (refusal-many w h timeout r s later good (rw (eq-eqb r.kind 1 k) (lt-ltb 32 _ (many w h timeout r s later k n full)))) (λ z. omega arith)))))

    -- of a row that is no start, the places after it say of its folio what the history said
    opened-by : (r.kind ≡ 1 → ⊥) → r.kind ≡ 3 → some (place_held r.minute r.minute timeout r.folio) ps' ≡ held_before r.minute h r.folio r.minute timeout
    opened-by n k =
        places-say w h timeout r s later r.folio r.minute r.minute (omega arith) (omega arith) (ends-kind r.folio r (λ z. omega arith))
        ∙ rw (starts-kind r.folio r n, and-false (some (names_folio r.folio) ps')) (or-false (held_before r.minute h r.folio r.minute timeout))

    goes_to : (r.kind ≡ 1 → ⊥) → offices_for r (some (place_held r.minute r.minute timeout r.folio) ps') ≡ offices_for r (held_before r.minute h r.folio r.minute timeout)
    goes_to n = by_cases (eqb r.kind 3) (λ k. ap (λ b. offices_for r b) (opened-by n (eqb-true _ _ k))) (λ k. sym (nowhere _ (eqb-false _ _ k)) ∙ nowhere _ (eqb-false _ _ k))

    right-entered : Right (entered w timeout r ps')
    unfolding entered
    right-entered =
        by_cases (eqb r.kind 1) (λ k. rw k (right-started (eqb-true _ _ k)))
        (λ k. rw k (right-taken ps' _ (refusal-none w h timeout r s later good (rw k refl)) (goes_to (eqb-false _ _ k))
        (quiet w h timeout r s later (λ f x. true-and-false (starts_folio f r) x (starts-kind f r (eqb-false _ _ k))))))

  late : TableStands w h timeout → r.minute < w.last → refusal h r timeout ≡ 50
  unfolding refusal ◌when◌otherwise◌
  late s l = rw (lt-ltb r.minute (last_from 0 h) (omega (arith, s.last))) refl

  bad : TableStands w h timeout → w.last ≤ r.minute → bad_row r ≡ true → refusal h r timeout ≡ 54
  unfolding refusal ◌when◌otherwise◌
  bad s l b = rw (le-ltb r.minute (last_from 0 h) (omega (arith, s.last)), b) refl

  -- the theorem: a row is refused, or goes to offices, as the history says, and the table then stands for the history with it
  pub advanced-right : TableStands w h timeout → Right (advanced w timeout r)
  unfolding advanced
  advanced-right s =
      by_cases (ltb r.minute w.last)
      (λ l. rw l (right-refused 50 s (late s (ltb-true _ _ l)) (λ z. omega arith)))
      (λ l. rw l (by_cases (bad_row r)
      (λ b. rw b (right-refused 54 s (bad s (ltb-false _ _ l) b) (λ z. omega arith)))
      (λ b. rw b (right-entered s (ltb-false _ _ l) b))))

-- the empty table stands for no rows
blank-timed : (n : ℕ) → Timed 0 (replicate n empty_place)
unfolding Timed
blank-timed zero = tt
blank-timed (suc n) = (omega arith, omega arith, blank-timed n)

blank-says : (b t timeout f n : ℕ) → some (place_held b t timeout f) (replicate n empty_place) ≡ false
unfolding some
blank-says b t timeout f zero = refl
blank-says b t timeout f (suc n) = rw (blank-held b t timeout f empty_place refl) (blank-says b t timeout f n)

pub empty-watch-stands : (timeout : ℕ) → TableStands empty_watch [] timeout
unfolding last_from doubled held_before holding some
empty-watch-stands timeout = record { size = refl; last = refl; once = refl; timed = blank-timed 32; same = λ f b t _ _. blank-says b t timeout f 32 }

-- of every table: a refused row leaves it
module _ (w : Watch) (timeout : ℕ) (r : TraceRow) where
  abbrev LeavesTable : Moved → Type 0
  LeavesTable m = (m.routed.number ≡ 0 → ⊥) → m.watch ≡ w

  keeps-entered : (ps : List Emergency) → LeavesTable (entered w timeout r ps)
  unfolding entered started_row taken_row refused_row
  keeps-entered ps =
      by_cases (eqb r.kind 1)
      (λ k. rw k (by_cases (some (names_folio r.folio) ps) (λ n. rw n (λ z. absurd (z refl))) (λ n. rw n (by_cases (ltb (free_at ps) 32) (λ l. rw l (λ z. absurd (z refl))) (λ l. rw l (λ _. refl))))))
      (λ k. rw k (λ z. absurd (z refl)))

  pub advanced-keeps : LeavesTable (advanced w timeout r)
  unfolding advanced refused_row
  advanced-keeps =
      by_cases (ltb r.minute w.last) (λ l. rw l (λ _. refl))
      (λ l. rw l (by_cases (bad_row r) (λ b. rw b (λ _. refl)) (λ b. rw b (keeps-entered (changed (place_after r timeout) w.places)))))
