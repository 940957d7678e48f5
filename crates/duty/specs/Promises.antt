-- What a step and a trace promise, each in one relation.
-- Assumes nothing.
use Rattle.std.specs.Prelude.{ℕ, zero, suc, ◌≡◌, List, [], length}
use Rattle.sheet.specs.declared.Refusal.{Refusal}
use Rattle.sheet.specs.Refusals.{Gives}
use Rattle.sheet.specs.Named.{seen_at}
use Rattle.question.specs.declared.Answer.{Answer}
use Rattle.question.specs.Replies.{Replies}
use Rattle.watch.specs.declared.Watch.{Watch}
use Rattle.watch.specs.Trace.{row_of_words, stepped_on, run_from}
use Rattle.duty.specs.declared.TraceReply.{TraceReply}
use Rattle.duty.specs.Desk.{RowAnswer, TraceAnswers, after_desk}

-- the table on return: a refusal, by its number, leaves it as it was
unfoldable pub table_left : ℕ → Watch → Watch → Watch
table_left zero w moved = moved
table_left (suc k) w moved = w

-- a row's words put to a table: what refuses it, `after` what is refused before the row, or the answer to its question and how many offices that went to; and the table on return
pub record DeskStepsAfter (after : ℕ → Refusal) (s : List ℕ) (timeout : ℕ) (ws : List ℕ) (w : Watch) (a : Answer) (w' : Watch) : Type 0 where
  pub replies : Replies (after (stepped_on w timeout ws).routed.number) (λ value count. (count ≡ (stepped_on w timeout ws).routed.offices) × RowAnswer (seen_at s) (row_of_words ws 0) count value) a
  pub table : w' ≡ table_left a.number w (stepped_on w timeout ws).watch

abbrev pub DeskSteps : List ℕ → ℕ → List ℕ → Watch → Answer → Watch → Type 0
DeskSteps s timeout ws w a w' = DeskStepsAfter (after_desk s) s timeout ws w a w'

-- a trace's refusal
abbrev pub refused_trace : TraceReply → Refusal
refused_trace a = record { number = a.number; sheet = a.sheet; row = a.row }

-- a whole trace, by the history of its rows: what refuses it, `after` what is refused before its rows, or one answer for each question, written in front of the output
pub record TracesAfter (after : ℕ → Refusal) (s : List ℕ) (timeout : ℕ) (rows out : List ℕ) (a : TraceReply) (out' : List ℕ) : Type 0 where
  pub answers : List ℕ
  pub many : length answers ≡ length (run_from timeout [] rows).questions
  pub are : a.number ≡ 0 → TraceAnswers (seen_at s) (run_from timeout [] rows).questions answers
  pub gives : Gives (after (run_from timeout [] rows).number) answers out (refused_trace a) a.count out'

abbrev pub Traces : List ℕ → ℕ → List ℕ → List ℕ → TraceReply → List ℕ → Type 0
Traces s timeout rows out a out' = TracesAfter (after_desk s) s timeout rows out a out'
