-- `ask::joint::first_decides` meets its contract: the lowest office that is not undetermined decides, by its own answer.
use Prim.Native.Nat.{ℕ}
use mathlib.Core.Path.{sym}
use lib.Dec.{ltb}
use Rattle.meaning.specs.Answers.{undetermined_answer}
use Rattle.ask.proofs.Jointly.{some-decides, none-decides}
use Rattle.ask.proofs.joint.first_decides.Goals as goal

pub returns-in_err-i : goal.returns-in_err-i
returns-in_err-i c = rw c.from_residual.ensures (λ rest. none-decides (λ (r : ℕ). ltb undetermined_answer r) (λ (r : ℕ). r) c.args.answers.now rest (sym c.in_err-i.ensures))

pub returns : goal.returns
returns c = rw c.into.ensures (λ rest. some-decides (λ (r : ℕ). ltb undetermined_answer r) (λ (r : ℕ). r) c.args.answers.now rest c.in_ok-i.i (sym c.in_ok-i.ensures))
