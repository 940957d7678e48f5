-- A row's words put to any table: what a step is, by cases.
-- Assumes nothing.
use Prim.Native.Nat.{ℕ, ◌≤◌}
use mathlib.Core.Path.{◌≡◌, refl}
use mathlib.Core.Bool.{Bool, true, false}
use mathlib.Core.List.{List}
use native.Mathlib.Omega.{arith}
use lib.Dec.{ltb, eqb}
use lib.ListN.{length}
use borrow.Author.Tests.{eq-eqb, ne_eqb, eqb-true}
use Rattle.watch.specs.History.{changed, some, bad_row, offices_for}
use Rattle.watch.specs.WatchTable.{names_folio, place_held, place_after, free_at, doubled, refused_row, taken_row, started_row, entered, advanced}
use Rattle.watch.specs.Trace.{row_of_words, stepped_on}
use Rattle.watch.specs.declared.TraceRow.{TraceRow}
use Rattle.watch.specs.declared.Emergency.{Emergency}
use Rattle.watch.specs.declared.Watch.{Watch}
use Rattle.watch.specs.WatchTable.{Moved}
use Rattle.watch.proofs.Tests.{by_cases}
use Rattle.watch.proofs.Standing.{advanced-keeps}

-- no row goes to more than two offices
few-for : (r : TraceRow) (b : Bool) → offices_for r b ≤ 2
unfolding offices_for
few-for r true = by_cases (eqb r.kind 3) (λ e. rw e (omega arith)) (λ e. rw e (omega arith))
few-for r false = by_cases (eqb r.kind 3) (λ e. rw e (omega arith)) (λ e. rw e (omega arith))

module _ (w : Watch) (timeout : ℕ) where
  abbrev Few : Moved → Type 0
  Few m = m.routed.offices ≤ 2

  few-started : (r : TraceRow) (ps : List Emergency) → Few (started_row w r ps)
  unfolding started_row taken_row refused_row
  few-started r ps = by_cases (some (names_folio r.folio) ps) (λ n. rw n (omega arith)) (λ n. rw n (by_cases (ltb (free_at ps) 32) (λ l. rw l (omega arith)) (λ l. rw l (omega arith))))

  few-entered : (r : TraceRow) (ps : List Emergency) → Few (entered w timeout r ps)
  unfolding entered taken_row
  few-entered r ps = by_cases (eqb r.kind 1) (λ k. rw k (few-started r ps)) (λ k. rw k (few-for r (some (place_held r.minute r.minute timeout r.folio) ps)))

  pub advanced-few : (r : TraceRow) → Few (advanced w timeout r)
  unfolding advanced refused_row
  advanced-few r =
      by_cases (ltb r.minute w.last) (λ l. rw l (omega arith))
      (λ l. rw l (by_cases (bad_row r) (λ b. rw b (omega arith)) (λ b. rw b (few-entered r (changed (place_after r timeout) w.places)))))

  module _ (ws : List ℕ) where
    pub stepped-few : Few (stepped_on w timeout ws)
    unfolding stepped_on refused_row
    stepped-few = by_cases (doubled w.places) (λ d. rw d (omega arith)) (λ d. rw d (by_cases (eqb (length ws) 5) (λ e. rw e (advanced-few (row_of_words ws 0))) (λ e. rw e (omega arith))))

    -- a row that is not refused has five words
    pub stepped-five : (stepped_on w timeout ws).routed.number ≡ 0 → length ws ≡ 5
    unfolding stepped_on refused_row
    stepped-five =
        by_cases (doubled w.places) (λ d. rw d (λ z. absurd (omega (arith, z))))
        (λ d. rw d (by_cases (eqb (length ws) 5) (λ e _. eqb-true _ _ e) (λ e. rw e (λ z. absurd (omega (arith, z))))))

    -- a refused row leaves any table
    pub stepped-keeps : ((stepped_on w timeout ws).routed.number ≡ 0 → ⊥) → (stepped_on w timeout ws).watch ≡ w
    unfolding stepped_on refused_row
    stepped-keeps =
        by_cases (doubled w.places) (λ d. rw d (λ _. refl))
        (λ d. rw d (by_cases (eqb (length ws) 5) (λ e. rw e (advanced-keeps w timeout (row_of_words ws 0))) (λ e. rw e (λ _. refl))))

    -- 59 comes before the row is read
    pub stepped-twice : doubled w.places ≡ true → stepped_on w timeout ws ≡ refused_row w 59
    unfolding stepped_on
    stepped-twice d = rw d refl

    -- of a table that names no folio twice
    module _ (once : doubled w.places ≡ false) where
      pub stepped-row : length ws ≡ 5 → stepped_on w timeout ws ≡ advanced w timeout (row_of_words ws 0)
      unfolding stepped_on
      stepped-row e = rw (once, eq-eqb _ _ e) refl

      pub stepped-cut : (length ws ≡ 5 → ⊥) → stepped_on w timeout ws ≡ refused_row w 54
      unfolding stepped_on
      stepped-cut e = rw (once, ne_eqb _ _ e) refl
