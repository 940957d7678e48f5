-- Rows as words: one row put to any table, and a whole trace by the history of its rows.
-- Assumes nothing.
use Rattle.std.specs.Prelude.{ℕ, ◌+◌, cond, List, [], ◌∷◌, ◌++◌, length, get_or, Result, Ok, Err}
use Rattle.sheet.specs.declared.fault.Fault.{Fault}
use Rattle.sheet.specs.FaultNumbers.{fault_number}
use Rattle.sheet.specs.Refusals.{◌is◌}
use Rattle.watch.specs.History.{Routed, routed}
use Rattle.watch.specs.WatchTable.{Moved, doubled, refused_row, advanced}
use Rattle.watch.specs.declared.TraceRow.{TraceRow}
use Rattle.watch.specs.declared.Watch.{Watch}

-- the row of five words from i on
unfoldable pub row_of_words : List ℕ → ℕ → TraceRow
row_of_words ws i = record { minute = get_or ws i 0; kind = get_or ws (i + 1) 0; folio = get_or ws (i + 2) 0; person = get_or ws (i + 3) 0; deed = get_or ws (i + 4) 0 }

-- any table after a row's words: 59 a folio named in two places, before the row is read; 54 other than five words; then the row
unfoldable pub stepped_on : Watch → ℕ → List ℕ → Moved
stepped_on w timeout ws = cond (doubled w.places) (refused_row w 59) (cond (length ws is 5) (advanced w timeout (row_of_words ws 0)) (refused_row w 54))

-- a question of a trace: its row, and how many offices it goes to
pub record TraceQuestion : Type 0 where
  pub row : TraceRow
  pub offices : ℕ

-- how a trace ends: what refused a row, or 0, and the questions up to there
pub record Run : Type 0 where
  pub number : ℕ
  pub questions : List TraceQuestion

-- the row's question, where it is one
unfoldable pub question_in : TraceRow → Routed → List TraceQuestion
question_in r t = cond (t.offices is 0) [] (record { row = r; offices = t.offices } ∷ [])

-- how many that are
unfoldable pub asks : Routed → ℕ
asks t = cond (t.offices is 0) 0 1

-- questions, and then how the rest of a trace ends
unfoldable pub after_questions : List TraceQuestion → Run → Run
after_questions qs rest = record { number = rest.number; questions = qs ++ rest.questions }

-- row r was told t, and the rest of the rows ends as `rest`
unfoldable pub next_routed : TraceRow → Routed → Run → Run
next_routed r t rest = cond (t.number is 0) (after_questions (question_in r t) rest) (record { number = t.number; questions = [] })

-- a last row cut short
abbrev pub cut_short_run : Run
cut_short_run = record { number = 54; questions = [] }

-- the words that follow the history h, five a row
unfoldable pub run_from : ℕ → List TraceRow → List ℕ → Run
run_from timeout h [] = record { number = 0; questions = [] }
run_from timeout h (m ∷ []) = cut_short_run
run_from timeout h (m ∷ k ∷ []) = cut_short_run
run_from timeout h (m ∷ k ∷ f ∷ []) = cut_short_run
run_from timeout h (m ∷ k ∷ f ∷ p ∷ []) = cut_short_run
run_from timeout h (m ∷ k ∷ f ∷ p ∷ d ∷ ws) =
    let r : TraceRow = record { minute = m; kind = k; folio = f; person = p; deed = d } in
    next_routed r (routed h r timeout) (run_from timeout (h ++ (r ∷ [])) ws)

-- a whole trace's refusal, or number 0 and how many questions it asks
pub record CountedTrace : Type 0 where
  pub number : ℕ
  pub count : ℕ

-- .. as the code tells it
abbrev pub told_count : Result ℕ Fault → CountedTrace
told_count (Ok n) = record { number = 0; count = n }
told_count (Err f) = record { number = fault_number f; count = 0 }

-- the number, and how many questions a trace that is not refused asks
unfoldable pub counted_trace : Run → CountedTrace
counted_trace o = record { number = o.number; count = cond (o.number is 0) (length o.questions) 0 }
