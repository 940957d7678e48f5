-- What the counter asks, and what it answers, of a file's bytes.
-- Assumes nothing.
use Rattle.std.specs.Prelude.{ℕ, List}
use Rattle.sheet.specs.declared.Refusal.{Refusal}
use Rattle.sheet.specs.Refusals.{◌then◌}
use Rattle.files.specs.Bytes.{bytes_of, bytes_verdict}
use Rattle.question.specs.declared.Question.{Question}
use Rattle.question.specs.Asked.{plain}

-- a question that names a person, a deed and a folio, at an office or under a rule
abbrev pub asking : ℕ → ℕ → ℕ → ℕ → ℕ → ℕ → Question
asking office rule kind person deed folio = record { office = office; rule = rule; kind = kind; person = person; category = 0; deed = deed; other = 0; folio = folio }

-- a question that names no person, at an office
abbrev pub seeking : ℕ → ℕ → ℕ → ℕ → ℕ → Question
seeking office category deed other folio = record { office = office; rule = 0; kind = 0; person = 0; category = category; deed = deed; other = other; folio = folio }

-- the file's own refusal, 33 and then 1 to 17 of its words, and then the question's
unfoldable pub after_file : List ℕ → ℕ → Refusal
after_file file k = bytes_verdict 1 file then plain k

-- the bytes, low byte first, of a list of words of which R holds
pub data InBytes (R : List ℕ → Type 0) : List ℕ → Type 0 where
  in_bytes : (ws : List ℕ) → R ws → InBytes R (bytes_of ws)
