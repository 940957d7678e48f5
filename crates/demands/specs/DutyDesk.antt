-- What the duty desk was promised (request 2026-04), of a step's and a trace's own statements: both are right against the whole history of rows, and a trace is its steps one after the other.
-- Assumes nothing.
use Rattle.std.specs.Prelude.{ℕ, ◌<◌, ◌≤◌, ◌≡◌, true, false, cond, List, [], ◌∷◌, ◌++◌, ◌↔◌, length, take, drop}
use Rattle.sheet.specs.declared.Refusal.{Refusal}
use Rattle.sheet.specs.Refusals.{◌is◌, none, ◌then◌, short}
use Rattle.sheet.specs.Named.{seen_at}
use Rattle.question.specs.declared.Answer.{Answer}
use Rattle.watch.specs.declared.TraceRow.{TraceRow}
use Rattle.watch.specs.declared.Watch.{Watch}
use Rattle.watch.specs.History.{start_kind, max_held, some, repeats, is_open, is_held, held_folios, last_minute, bad_row, refusal, offices_for, HeldBy}
use Rattle.watch.specs.WatchTable.{doubled, empty_watch, TableStands}
use Rattle.watch.specs.Trace.{row_of_words}
use Rattle.duty.specs.declared.TraceReply.{TraceReply}
use Rattle.duty.specs.Desk.{RowAnswer, desk_fault, after_desk}
use Rattle.duty.specs.Promises.{DeskSteps, refused_trace, Traces}
use Rattle.demands.specs.Demands.{said_in}

-- the answer that a step tells, where its row asks
unfoldable pub answer_told : Answer → List ℕ
answer_told a = cond (a.count is 0) [] (a.value ∷ [])

-- the words of rows put to a table one after the other, each by a step's own promise, until one is refused: the answers on the way, and what refused
pub data InSteps (s : List ℕ) (timeout : ℕ) : Watch → List ℕ → List ℕ → Refusal → Type 0 where
  no-row-left : (w : Watch) → InSteps s timeout w [] [] none
  row-refused : (w w' : Watch) (ws : List ℕ) (a : Answer) → 0 < length ws → DeskSteps s timeout (take 5 ws) w a w' → (a.number ≡ 0 → ⊥) → InSteps s timeout w ws [] (said_in a)
  row-taken : (w w' : Watch) (ws vs : List ℕ) (a : Answer) (r : Refusal) → 0 < length ws → DeskSteps s timeout (take 5 ws) w a w' → a.number ≡ 0 → InSteps s timeout w' (drop 5 ws) vs r → InSteps s timeout w ws (answer_told a ++ vs) r

pub record DutyDesk : Type 0 where
  -- open in the request's words: some start row from a minute before t holds the folio at t
  pub open_by : (h : List TraceRow) (f t timeout : ℕ) → (is_open h f t timeout ≡ true) ↔ HeldBy t h f t timeout
  -- the folios that are counted are those held, each once
  pub held-each : (h : List TraceRow) (f t timeout : ℕ) → some (λ g. f is g) (held_folios h t timeout) ≡ is_held h f t timeout
  pub held_one : (h : List TraceRow) (t timeout : ℕ) → repeats (held_folios h t timeout) ≡ false
  -- 51 exactly when a good start, not too late, would make 33 folios held at its minute
  pub too_many : (h : List TraceRow) (r : TraceRow) (timeout : ℕ)
      → (refusal h r timeout ≡ 51) ↔ ((last_minute h ≤ r.minute) × (bad_row r ≡ false) × (r.kind ≡ start_kind) × (max_held < length (held_folios (h ++ (r ∷ [])) r.minute timeout)))
  -- the empty table stands for the empty history
  pub empty_stands : (timeout : ℕ) → TableStands empty_watch [] timeout
  -- of a table that stands for a history, a step says what the definitions over the whole history say ..
  pub step-says : (s : List ℕ) (timeout : ℕ) (ws : List ℕ) (w w' : Watch) (h : List TraceRow) {a : Answer} → TableStands w h timeout → length ws ≡ 5 → DeskSteps s timeout ws w a w' → said_in a ≡ after_desk s (refusal h (row_of_words ws 0) timeout)
  -- .. where it is not refused its question goes to office 2, then office 1, while the folio is open, otherwise to office 1 alone ..
  pub step-answers : (s : List ℕ) (timeout : ℕ) (ws : List ℕ) (w w' : Watch) (h : List TraceRow) {a : Answer} → TableStands w h timeout → DeskSteps s timeout ws w a w' → a.number ≡ 0
      → (a.count ≡ offices_for (row_of_words ws 0) (is_open h (row_of_words ws 0).folio (row_of_words ws 0).minute timeout)) × RowAnswer (seen_at s) (row_of_words ws 0) a.count a.value
  -- .. and the table then stands for the history with that row
  pub step-stands : (s : List ℕ) (timeout : ℕ) (ws : List ℕ) (w w' : Watch) (h : List TraceRow) {a : Answer} → TableStands w h timeout → DeskSteps s timeout ws w a w' → a.number ≡ 0 → TableStands w' (h ++ (row_of_words ws 0 ∷ [])) timeout
  -- of any table: a refused row leaves it as it was
  pub refused-leaves : (s : List ℕ) (timeout : ℕ) (ws : List ℕ) (w w' : Watch) {a : Answer} → DeskSteps s timeout ws w a w' → (a.number ≡ 0 → ⊥) → w' ≡ w
  -- a folio named in two places gets 59 whatever the row is, and else a row of other than five words gets 54
  pub named-twice : (s : List ℕ) (timeout : ℕ) (ws : List ℕ) (w w' : Watch) {a : Answer} → doubled w.places ≡ true → DeskSteps s timeout ws w a w' → said_in a ≡ after_desk s 59
  pub cut_short : (s : List ℕ) (timeout : ℕ) (ws : List ℕ) (w w' : Watch) {a : Answer} → doubled w.places ≡ false → (length ws ≡ 5 → ⊥) → DeskSteps s timeout ws w a w' → said_in a ≡ after_desk s 54
  -- a whole trace is the steps one after the other, from the empty table: what refuses a row refuses it, then 25, and else their answers are written
  pub trace-steps : (s : List ℕ) (timeout : ℕ) (rows out vs : List ℕ) (r : Refusal) {a : TraceReply} {out' : List ℕ} → (desk_fault s).number ≡ 0 → InSteps s timeout empty_watch rows vs r → Traces s timeout rows out a out'
      → (refused_trace a ≡ (r then short (length out) (length vs))) × (a.number ≡ 0 → take a.count out' ≡ vs)
