-- `counter::tormukai_witness` meets its contract: what is asked of the file's words, after 33.
use Prim.Native.Nat.{ℕ}
use mathlib.Core.List.{List}
use native.Mathlib.Omega.{arith}
use Rattle.sheet.specs.declared.Refusal.{Refusal}
use Rattle.ask.specs.Promises.{WitnessOf}
use Rattle.question.specs.Asked.{ask_fault}
use Rattle.question.specs.Replies.{Shows}
use Rattle.counter.specs.Filed.{asking, InBytes}
use Rattle.counter.proofs.Reading.{show-unread, of-file}
use Rattle.counter.proofs.tormukai_witness.Goals as goal

pub returns-in-Ok : goal.returns-in-Ok
returns-in-Ok c = let A = c.args in
    of-file _ _ c.in-Ok.ensures.ok.0 c.in-Ok.ensures.ok.1
    (λ (after : ℕ → Refusal) (s : List ℕ). Shows (after (ask_fault s (asking A.office 0 A.kind A.person A.deed A.folio))) (InBytes (WitnessOf s (asking A.office 0 A.kind A.person A.deed A.folio))) A.out.now c.witness_bytes.result c.witness_bytes.new.out)
    (rw c.office_question.ensures at c.witness_bytes.ensures)

pub returns-in-Err : goal.returns-in-Err
returns-in-Err c = show-unread _ _ c.in-Err.ensures.err.0 c.in-Err.ensures.err.1 _ _ _ _ c.from.ensures
