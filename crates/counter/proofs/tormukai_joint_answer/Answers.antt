-- `counter::tormukai_joint_answer` meets its contract: what is asked of the file's words, after 33.
use Prim.Native.Nat.{ℕ}
use mathlib.Core.List.{List}
use native.Mathlib.Omega.{arith}
use Rattle.sheet.specs.declared.Refusal.{Refusal}
use Rattle.ask.specs.Promises.{AnswersJointly}
use Rattle.counter.specs.Filed.{asking}
use Rattle.counter.proofs.Reading.{reply-unread, of-file}
use Rattle.counter.proofs.tormukai_joint_answer.Goals as goal

pub returns-in-Ok : goal.returns-in-Ok
returns-in-Ok c = let A = c.args in of-file _ _ c.in-Ok.ensures.ok.0 c.in-Ok.ensures.ok.1 (λ (after : ℕ → Refusal) (s : List ℕ). AnswersJointly after s (asking 0 A.rule 0 A.person A.deed A.folio) c.tormukai_sheet_joint_answer.result) c.tormukai_sheet_joint_answer.ensures

pub returns-in-Err : goal.returns-in-Err
returns-in-Err c = reply-unread _ _ c.in-Err.ensures.err.0 c.in-Err.ensures.err.1 _ _ _ c.from.ensures
