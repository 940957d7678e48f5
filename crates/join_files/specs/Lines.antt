-- What the joining program says of a join: two lines, or a refusal's line, as the bytes of their characters.
-- Assumes nothing.
use Rattle.std.specs.Prelude.{ℕ, ◌≡◌, cond, List, [], ◌∷◌, ◌++◌, length, take, drop}
use Rattle.sheet.specs.Refusals.{◌is◌, ◌below◌}
use Rattle.text.specs.Growing.{labelled, end_of_line}
use Rattle.join.specs.declared.Joined.{Joined}

-- "nodes ", " shared ", "\nedges "
abbrev pub nodes_text : List ℕ
nodes_text = 110 ∷ 111 ∷ 100 ∷ 101 ∷ 115 ∷ 32 ∷ []

abbrev pub shared_text : List ℕ
shared_text = 32 ∷ 115 ∷ 104 ∷ 97 ∷ 114 ∷ 101 ∷ 100 ∷ 32 ∷ []

abbrev pub edges_text : List ℕ
edges_text = 10 ∷ 101 ∷ 100 ∷ 103 ∷ 101 ∷ 115 ∷ 32 ∷ []

-- "refused ", " sheet ", " row "
abbrev pub refused_text : List ℕ
refused_text = 114 ∷ 101 ∷ 102 ∷ 117 ∷ 115 ∷ 101 ∷ 100 ∷ 32 ∷ []

abbrev pub sheet_text : List ℕ
sheet_text = 32 ∷ 115 ∷ 104 ∷ 101 ∷ 101 ∷ 116 ∷ 32 ∷ []

abbrev pub row_text : List ℕ
row_text = 32 ∷ 114 ∷ 111 ∷ 119 ∷ 32 ∷ []

-- joint count, then shared count, of each table
unfoldable pub two_lines : Joined → List ℕ
two_lines j = labelled nodes_text j.nodes ++ labelled shared_text j.sharednodes ++ labelled edges_text j.edges ++ labelled shared_text j.sharededges ++ end_of_line

-- refused N sheet S row R
unfoldable pub refusal_line : Joined → List ℕ
refusal_line j = labelled refused_text j.number ++ labelled sheet_text j.sheet ++ labelled row_text j.row ++ end_of_line

-- what is said of a join
unfoldable pub report_of : Joined → List ℕ
report_of j = cond (j.number is 0) (two_lines j) (refusal_line j)

-- the report stands in front of the text, n bytes long, and all behind it is as it was; where the text is shorter, n is 0 and nothing is written
pub record Reports (report text : List ℕ) (n : ℕ) (text' : List ℕ) : Type 0 where
  pub told : n ≡ cond (length text below length report) 0 (length report)
  pub holds : text' ≡ take n report ++ drop n text
