-- `ask::joint::side_decides` meets its contract: the lowest office that gives the side decides.
use Prim.Native.Nat.{ℕ}
use mathlib.Core.Path.{sym}
use Rattle.ask.specs.JointRules.{answer_number, gives_answer}
use Rattle.ask.proofs.Jointly.{some-decides, none-decides}
use Rattle.ask.proofs.joint.side_decides.Goals as goal

pub returns-in_err-i : goal.returns-in_err-i
returns-in_err-i c = rw c.from_residual.ensures (λ rest. none-decides (gives_answer (answer_number c.args.side)) (λ (r : ℕ). answer_number c.args.side) c.args.answers.now rest (sym c.in_err-i.ensures))

pub returns : goal.returns
returns c = rw c.into.ensures (λ rest. some-decides (gives_answer (answer_number c.args.side)) (λ (r : ℕ). answer_number c.args.side) c.args.answers.now rest c.in_ok-i.i (sym c.in_ok-i.ensures))
