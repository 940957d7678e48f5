-- The words that a header and a row are written as.
-- Assumes nothing.
use Rattle.std.specs.Prelude.{ℕ, List, [], ◌∷◌}
use Rattle.sheet.specs.declared.Cells.{Cells}
use Rattle.sheet.specs.declared.Half.{Half}
use Rattle.sheet.specs.Limits.{header_words, edges_from}

-- form, office count, node count, edge count, node offset, edge offset
unfoldable pub header_six : ℕ → ℕ → ℕ → ℕ → List ℕ
header_six form offices nodes edges = form ∷ offices ∷ nodes ∷ edges ∷ header_words ∷ edges_from nodes ∷ []

-- a row's words: its first three, then its offices
unfoldable pub stored : Half → ℕ → Cells → List ℕ
stored half form c = c.first ∷ c.second ∷ c.third ∷ c.offices ∷ []
