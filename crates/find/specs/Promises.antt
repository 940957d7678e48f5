-- What a search in a sheet promises.
-- Assumes nothing.
use Rattle.std.specs.Prelude.{ℕ, ◌≡◌, List}
use Rattle.tables.specs.Count.{number_of, has}
use Rattle.tables.specs.Key.{Key}
use Rattle.sheet.specs.declared.Half.{Half}
use Rattle.sheet.specs.Found.{PlaceIs}
use Rattle.sheet.specs.Rows.{header_of, count_in, row_key_at}
use Rattle.sheet.specs.Verdict.{verdict}
use Rattle.question.specs.declared.Answer.{Answer}
use Rattle.question.specs.Replies.{Replies}

-- whether a row of a half has the key, 1 yes and 0 no, and at which row it stands or would stand; only the sheet is refused
abbrev pub TellsPlace : Half → List ℕ → Key → Answer → Type 0
TellsPlace half s k =
    Replies (verdict 1 s) (λ value row. (value ≡ number_of (has (count_in half (header_of s)) (row_key_at half s) k)) × PlaceIs (row_key_at half s) (count_in half (header_of s)) k row)
