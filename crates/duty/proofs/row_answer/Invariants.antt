-- `duty::row_answer` meets its contract. The loop's invariant: what the offices still to ask answer in turn is the answer, since those above them are undetermined.
use Prim.Native.Nat.{ℕ}
use Rattle.sheet.specs.Named.{seen_at}
use Rattle.duty.specs.Desk.{in_turn, DeskAnswer}
use Rattle.duty.proofs.row_answer.Given as goal

abbrev pub invariant-loop-office : goal.invariant-loop-office
invariant-loop-office l = (r : ℕ) → DeskAnswer (seen_at l.sheet.words.now) l.q.person l.q.deed l.q.folio (in_turn l.office) r → DeskAnswer (seen_at l.sheet.words.now) l.q.person l.q.deed l.q.folio (in_turn l.offices) r
