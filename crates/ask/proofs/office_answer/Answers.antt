-- `ask::office_answer` meets its contract: an office finds nothing for whom it does not know.
use mathlib.Core.Path.{◌∙◌}
use Rattle.sheet.proofs.Forming.{words_of}
use Rattle.sheet.proofs.Faulting.{fault-some}
use Rattle.ask.proofs.Placing.{unknown-undetermined}
use Rattle.ask.proofs.office_answer.Goals as goal

pub returns-in-Err : goal.returns-in-Err
returns-in-Err c = unknown-undetermined _ (words_of _ _ _ c.args.at.now.sheet.formed) _ c.args.question (λ z. fault-some _ (c.in-Err.ensures.err ∙ z))
