-- What the inner functions of a trace write and tell.
-- Assumes nothing.
use Rattle.std.specs.Prelude.{ℕ, ◌≡◌, List, Result, Ok, Err}
use Rattle.std.proofs.lemmas.List.Edits.{sets}
use Rattle.tables.specs.Office.{View}
use Rattle.watch.specs.Trace.{TraceQuestion}
use Rattle.sheet.specs.declared.Refusal.{Refusal}
use Rattle.duty.specs.declared.TraceReply.{TraceReply}
use Rattle.duty.specs.Desk.{TraceAnswers}

-- the answers to questions stand in an output from `at` on; all else is as it was
pub record PutsAnswers (views : ℕ → View) (qs : List TraceQuestion) (out : List ℕ) (at : ℕ) (out' : List ℕ) : Type 0 where
  pub answers : List ℕ
  pub are : TraceAnswers views qs answers
  pub holds : out' ≡ sets out at answers

-- number 0 with how many answers were written, or a refusal with none
abbrev pub reply_of : Result ℕ Refusal → TraceReply
reply_of (Ok n) = record { number = 0; sheet = 0; row = 0; count = n }
reply_of (Err r) = record { number = r.number; sheet = r.sheet; row = r.row; count = 0 }
