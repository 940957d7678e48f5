-- What a question tells or is refused by, as the answer that C takes.
-- Assumes nothing.
use Rattle.std.specs.Prelude.{Result, Ok, Err}
use Rattle.sheet.specs.declared.Refusal.{Refusal}
use Rattle.question.specs.declared.Answer.{Answer}
use Rattle.question.specs.declared.reply.Told.{Told}
use Rattle.question.specs.Replies.{refused_by, tells}

-- number 0 with what is told, or a refusal with nothing
abbrev pub answer_of : Result Told Refusal → Answer
answer_of (Ok t) = tells t.value t.count
answer_of (Err r) = refused_by r
