-- `ask::answers_of` meets its contract. The loop's invariant: the answers of the offices passed are in their places.
use Prim.Native.Nat.{ℕ, suc, ◌<◌}
use mathlib.Core.Path.{◌≡◌}
use lib.ListN.{length, get_or}
use Rattle.meaning.specs.Answers.{AnswerIs}
use Rattle.sheet.specs.Limits.{max_offices}
use Rattle.sheet.specs.Named.{seen_at}
use Rattle.ask.specs.declared.joint.OfficeAnswer.TheVariants.{Undetermined}
use Rattle.ask.specs.JointRules.{answer_number}
use Rattle.ask.proofs.answers_of.Given as goal

abbrev pub invariant-loop-k : goal.invariant-loop-k
invariant-loop-k l =
    record {
      long : length l.answers ≡ max_offices;
      each : (i : ℕ) → i < l.k → AnswerIs (seen_at l.sheet.words.now (suc i)) l.q.person l.q.deed l.q.folio (answer_number (get_or l.answers i Undetermined));
    }
