-- What question 4 promises.
-- Assumes nothing.
use Rattle.std.specs.Prelude.{ℕ, ◌≡◌, List}
use Rattle.tables.specs.Count.{number_of}
use Rattle.sheet.specs.Rows.{header_of}
use Rattle.meaning.specs.Paths.{is_path}
use Rattle.question.specs.declared.Question.{Question}
use Rattle.question.specs.declared.Answer.{Answer}
use Rattle.question.specs.Asked.{asked, bad_office, after_sheet, side_of}
use Rattle.question.specs.Replies.{Replies}

-- question 4: whether a list of words is some grant or ban path; it refuses only for the sheet and office
abbrev pub TellsPath : List ℕ → Question → List ℕ → Answer → Type 0
TellsPath s q list a = Replies (after_sheet s (bad_office (header_of s) q.office)) (λ value count. (value ≡ number_of (is_path (asked s q) (side_of q.kind) q.person q.deed q.folio list)) × (count ≡ 0)) a
