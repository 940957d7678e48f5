-- A whole trace read row by row, with a table that stands for the rows read.
-- Assumes nothing.
use Prim.Native.Nat.{ℕ, ◌+◌, ◌≤◌, ◌<◌}
use mathlib.Core.Path.{◌≡◌, refl, sym, ap, ◌∙◌}
use mathlib.Core.List.{List, [], ◌∷◌, ◌++◌, append_assoc, append-nil}
use native.Mathlib.Omega.{arith}
use native.Mathlib.Numerals.{add-one}
use lib.ListN.{length, take, drop, get_or, drop_of_length-le, length-drop, length-append}
use lib.Seq.{drop-cons}
use lib.Dec.{ltb, eqb}
use borrow.Author.Tests.{eq-eqb, ne_eqb, eqb-true, eqb-false, ltb-true, ltb-false}
use Rattle.watch.specs.History.{routed, grown, refusal}
use Rattle.watch.specs.WatchTable.{advanced, TableStands, empty_watch}
use Rattle.watch.specs.Trace.{row_of_words, TraceQuestion, Run, question_in, asks, after_questions, next_routed, cut_short_run, run_from, counted_trace}
use Rattle.watch.specs.declared.TraceRow.{TraceRow}
use Rattle.watch.specs.declared.Watch.{Watch}
use Rattle.watch.specs.History.{Routed}
use Rattle.watch.specs.WatchTable.{Moved}
use Rattle.watch.proofs.Tests.{by_cases}
use Rattle.watch.proofs.Standing.{advanced-right, empty-watch-stands}

-- five words from i on
drop-one : (ws : List ℕ) (i j : ℕ) → i < length ws → i + 1 ≡ j → drop i ws ≡ get_or ws i 0 ∷ drop j ws
drop-one ws i j h e = rw (← e, add-one i) (drop-cons ws i 0 h)

pub five : (ws : List ℕ) (i : ℕ) → i + 5 ≤ length ws → drop i ws ≡ get_or ws i 0 ∷ get_or ws (i + 1) 0 ∷ get_or ws (i + 2) 0 ∷ get_or ws (i + 3) 0 ∷ get_or ws (i + 4) 0 ∷ drop (i + 5) ws
five ws i h =
    rw (drop-one ws i (i + 1) (omega arith) refl, drop-one ws (i + 1) (i + 2) (omega arith) (omega arith), drop-one ws (i + 2) (i + 3) (omega arith) (omega arith), drop-one ws (i + 3) (i + 4) (omega arith) (omega arith), drop-one ws (i + 4) (i + 5) (omega arith) (omega arith))
    refl

-- the questions of one row
pub asks-questions : (r : TraceRow) (t : Routed) → length (question_in r t) ≡ asks t
unfolding question_in asks
asks-questions r t = by_cases (eqb t.offices 0) (λ e. rw e refl) (λ e. rw e refl)

pub asks-few : (t : Routed) → asks t ≤ 1
unfolding asks
asks-few t = by_cases (eqb t.offices 0) (λ e. rw e (omega arith)) (λ e. rw e (omega arith))

pub asks_none : (r : TraceRow) (t : Routed) → t.offices ≡ 0 → (question_in r t ≡ []) × (asks t ≡ 0)
unfolding question_in asks
asks_none r t e = rw (eq-eqb _ _ e) (refl, refl)

pub asks-one : (r : TraceRow) (t : Routed) → (t.offices ≡ 0 → ⊥) → (question_in r t ≡ record { row = r; offices = t.offices } ∷ []) × (asks t ≡ 1)
unfolding question_in asks
asks-one r t e = rw (ne_eqb _ _ e) (refl, refl)

-- the row at the front of the words from i on
trace_row_behind : (ws : List ℕ) (i : ℕ) → i + 5 ≤ length ws → row_of_words (take 5 (drop i ws)) 0 ≡ row_of_words ws i
unfolding row_of_words
trace_row_behind ws i l = rw (five ws i l) refl

past_row : (ws : List ℕ) (i : ℕ) → i + 5 ≤ length ws → drop 5 (drop i ws) ≡ drop (i + 5) ws
past_row ws i l = rw (five ws i l) refl

pub grown-on : (timeout : ℕ) (h : List TraceRow) (r : TraceRow) → (routed h r timeout).number ≡ 0 → grown h r timeout ≡ h ++ (r ∷ [])
unfolding grown routed
grown-on timeout h r e = rw (eq-eqb (refusal h r timeout) 0 e) refl

module _ (timeout : ℕ) where
  run_step : (h : List TraceRow) (ws : List ℕ) (i : ℕ) → i + 5 ≤ length ws → run_from timeout h (drop i ws) ≡ next_routed (row_of_words ws i) (routed h (row_of_words ws i) timeout) (run_from timeout (h ++ (row_of_words ws i ∷ [])) (drop (i + 5) ws))
  unfolding run_from row_of_words
  run_step h ws i l = rw (five ws i l) refl

  pub cut_by : (h : List TraceRow) (ws : List ℕ) → 0 < length ws → length ws < 5 → run_from timeout h ws ≡ cut_short_run
  unfolding run_from
  cut_by h [] a b = absurd (omega arith)
  cut_by h (m ∷ []) a b = refl
  cut_by h (m ∷ k ∷ []) a b = refl
  cut_by h (m ∷ k ∷ f ∷ []) a b = refl
  cut_by h (m ∷ k ∷ f ∷ p ∷ []) a b = refl
  cut_by h (m ∷ k ∷ f ∷ p ∷ d ∷ ws) a b = absurd (omega arith)

  -- a whole row in front
  pub long-row : (h : List TraceRow) (ws : List ℕ) → 5 ≤ length ws
      → (length (take 5 ws) ≡ 5) × (row_of_words (take 5 ws) 0 ≡ row_of_words ws 0) × (run_from timeout h ws ≡ next_routed (row_of_words ws 0) (routed h (row_of_words ws 0) timeout) (run_from timeout (h ++ (row_of_words ws 0 ∷ [])) (drop 5 ws)))
  unfolding run_from row_of_words
  long-row h [] l = absurd (omega arith)
  long-row h (m ∷ []) l = absurd (omega arith)
  long-row h (m ∷ k ∷ []) l = absurd (omega arith)
  long-row h (m ∷ k ∷ f ∷ []) l = absurd (omega arith)
  long-row h (m ∷ k ∷ f ∷ p ∷ []) l = absurd (omega arith)
  long-row h (m ∷ k ∷ f ∷ p ∷ d ∷ ws) l = (refl, refl, refl)

  run-cut : (h : List TraceRow) (ws : List ℕ) (i : ℕ) → i < length ws → length ws < i + 5 → run_from timeout h (drop i ws) ≡ cut_short_run
  run-cut h ws i a b = cut_by h (drop i ws) (omega (arith, length-drop i ws)) (omega (arith, length-drop i ws))

  run_end : (h : List TraceRow) (ws : List ℕ) (i : ℕ) → length ws ≤ i → run_from timeout h (drop i ws) ≡ record { number = 0; questions = [] }
  unfolding run_from
  run_end h ws i l = rw (drop_of_length-le ws l) refl

  module _ (rows : List ℕ) where
    abbrev pub whole : Run
    whole = run_from timeout [] rows

    -- a table, after the rows up to word i, in which there were `count` questions
    pub record Running (w : Watch) (i count : ℕ) : Type 0 where
      pub history : List TraceRow
      pub questions : List TraceQuestion
      pub stands : TableStands w history timeout
      pub so_far : whole ≡ after_questions questions (run_from timeout history (drop i rows))
      pub many : length questions ≡ count

    unfoldable pub running-start : Running empty_watch 0 0
    unfolding after_questions
    running-start = record { history = []; questions = []; stands = empty-watch-stands timeout; so_far = refl; many = refl }

    module _ (w : Watch) (i count : ℕ) (g : Running w i count) where
      pub running-end : length rows ≤ i → record { number = 0; count = count } ≡ counted_trace whole
      unfolding counted_trace after_questions
      running-end l = rw (g.so_far, run_end g.history rows i l, append-nil g.questions, g.many) refl

      pub running-all : length rows ≤ i → g.questions ≡ whole.questions
      unfolding after_questions
      running-all l = rw (g.so_far, run_end g.history rows i l) (sym (append-nil g.questions))

      pub running-cut : i < length rows → length rows < i + 5 → record { number = 54; count = 0 } ≡ counted_trace whole
      unfolding counted_trace after_questions
      running-cut a b = rw (g.so_far, run-cut g.history rows i a b) refl

      -- of a trace that is not refused, no row is cut short
      pub running-room : whole.number ≡ 0 → i < length rows → i + 5 ≤ length rows
      unfolding after_questions
      running-room z l =
          by_cases (ltb (length rows) (i + 5))
          (λ x. absurd (omega (arith, sym (ap (λ (o : Run). o.number) (g.so_far ∙ ap (after_questions g.questions) (run-cut g.history rows i l (ltb-true _ _ x)))) ∙ z)))
          (λ x. ltb-false _ _ x)

      module _ (m : Moved) (l : i + 5 ≤ length rows) (e : m ≡ advanced w timeout (row_of_words rows i)) where
        pub routed-is : m.routed ≡ routed g.history (row_of_words rows i) timeout
        routed-is = rw e (advanced-right w g.history timeout (row_of_words rows i) g.stands).0

        pub so : whole ≡ after_questions g.questions (next_routed (row_of_words rows i) m.routed (run_from timeout (g.history ++ (row_of_words rows i ∷ [])) (drop (i + 5) rows)))
        so = rw (routed-is, ← (run_step g.history rows i l)) g.so_far

        pub running-refused : (m.routed.number ≡ 0 → ⊥) → record { number = m.routed.number; count = 0 } ≡ counted_trace whole
        unfolding counted_trace after_questions next_routed
        running-refused n = rw (so, ne_eqb m.routed.number 0 n, ne_eqb m.routed.number 0 n) refl

        unfoldable pub running-next : m.routed.number ≡ 0 → Running m.watch (i + 5) (count + asks m.routed)
        unfolding after_questions next_routed
        running-next n = record {
          history = g.history ++ (row_of_words rows i ∷ []);
          questions = g.questions ++ question_in (row_of_words rows i) m.routed;
          stands = rw (← (grown-on timeout g.history (row_of_words rows i) (sym (ap (λ (t : Routed). t.number) routed-is) ∙ n)), e) (advanced-right w g.history timeout (row_of_words rows i) g.stands).1;
          so_far = rw (so, eq-eqb m.routed.number 0 n, append_assoc g.questions (question_in (row_of_words rows i) m.routed) (run_from timeout (g.history ++ (row_of_words rows i ∷ [])) (drop (i + 5) rows)).questions) refl;
          many = length-append g.questions (question_in (row_of_words rows i) m.routed) ∙ rw (g.many, asks-questions (row_of_words rows i) m.routed) refl;
        }

        -- of a trace that is not refused
        module _ (z : whole.number ≡ 0) where
          pub running-goes : m.routed.number ≡ 0
          unfolding after_questions next_routed
          running-goes =
              by_cases (eqb m.routed.number 0) (λ x. eqb-true _ _ x)
              (λ x. absurd (eqb-false _ _ x (sym (rw x at (ap (λ (o : Run). o.number) so)) ∙ z)))

          pub running-fits : count + asks m.routed ≤ length whole.questions
          unfolding after_questions next_routed
          running-fits =
              let rest = (run_from timeout (g.history ++ (row_of_words rows i ∷ [])) (drop (i + 5) rows)).questions in
              rw (so, eq-eqb m.routed.number 0 running-goes)
              (omega (arith, g.many, asks-questions (row_of_words rows i) m.routed, length-append g.questions (question_in (row_of_words rows i) m.routed ++ rest), length-append (question_in (row_of_words rows i) m.routed) rest))

    -- the same where `rest` are the words not yet read
    pub record Behind (w : Watch) (rest : List ℕ) (count : ℕ) : Type 0 where
      pub at : ℕ
      pub is : rest ≡ drop at rows
      pub inside : at ≤ length rows
      pub few : count ≤ at
      pub running : Running w at count

    pub behind-start : (w : Watch) → w ≡ empty_watch → Behind w rows 0
    behind-start w e = record { at = 0; is = refl; inside = omega arith; few = omega arith; running = rw e running-start }

    module _ (w : Watch) (rest : List ℕ) (count : ℕ) (g : Behind w rest count) where
      read-so-far : length rest + g.at ≡ length rows
      read-so-far = omega (arith, ap (λ (l : List ℕ). length l) g.is, length-drop g.at rows, g.inside)

      pub behind-end : length rest ≡ 0 → record { number = 0; count = count } ≡ counted_trace whole
      behind-end z = running-end w g.at count g.running (omega (arith, read-so-far, z))

      pub behind-cut : 0 < length rest → length rest < 5 → record { number = 54; count = 0 } ≡ counted_trace whole
      behind-cut a b = running-cut w g.at count g.running (omega (arith, read-so-far, a)) (omega (arith, read-so-far, b))

      module _ (m : Moved) (row : List ℕ) (long : 5 ≤ length rest) (cut : row ≡ take 5 rest) (e : m ≡ advanced w timeout (row_of_words row 0)) where
        whole-row : g.at + 5 ≤ length rows
        whole-row = omega (arith, read-so-far, long)

        told : m ≡ advanced w timeout (row_of_words rows g.at)
        told = rw (← (trace_row_behind rows g.at whole-row), ← g.is, ← cut) e

        pub behind-refused : (m.routed.number ≡ 0 → ⊥) → record { number = m.routed.number; count = 0 } ≡ counted_trace whole
        behind-refused n = running-refused w g.at count g.running m whole-row told n

        pub behind-next : (later : List ℕ) (n : ℕ) → later ≡ drop 5 rest → m.routed.number ≡ 0 → n ≡ count + asks m.routed → Behind m.watch later n
        behind-next later n d z s = record {
          at = g.at + 5;
          is = rw (d, g.is) (past_row rows g.at whole-row);
          inside = whole-row;
          few = omega (arith, s, asks-few m.routed, g.few);
          running = rw s (running-next w g.at count g.running m whole-row told z);
        }
