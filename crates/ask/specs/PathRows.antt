-- Node rows as words, and what writes a path.
-- Assumes nothing.
use Rattle.std.specs.Prelude.{ℕ, ◌<◌, ◌≤◌, ◌≡◌, List, [], ◌∷◌, length, take, get_or}
use Rattle.sheet.specs.declared.Header.{Header}
use Rattle.sheet.specs.Limits.{max_nodes}
use Rattle.sheet.specs.Rows.{node_at}
use Rattle.sheet.specs.declared.Seat.{Seat}
use Rattle.sheet.specs.Seats.{seen_from}
use Rattle.paths.specs.Reached.{Layers}
use Rattle.walk.specs.Arcs.{Steps, walk_of, reversed}
use Rattle.meaning.specs.Paths.{right_kind}
use Rattle.meaning.specs.Questions.{WitnessIs}
use Rattle.question.specs.declared.Question.{Question}
use Rattle.question.specs.Asked.{side_of}

-- two words for each row, number and variant
unfoldable pub spelled_rows : List ℕ → List ℕ → List ℕ
spelled_rows s [] = []
spelled_rows s (i ∷ rows) = (node_at s i).number ∷ (node_at s i).variant ∷ spelled_rows s rows

-- the first n rows named are rows that there are
abbrev pub RowsIn : ℕ → List ℕ → ℕ → Type 0
RowsIn nodes rows n = (i : ℕ) → i < n → get_or rows i 0 < nodes

-- the numbers of the walk back from a row, of the question's side from a seat
pub record WalkedBack (s t : List ℕ) (h : Header) (seat : Seat) (q : Question) (to : ℕ) (d : List ℕ) : Type 0 where
  pub long : length d ≡ max_nodes
  pub layers : Layers (Steps s t (reversed (walk_of seat (right_kind (side_of q.kind)) q.deed)) h.edges) (λ x. x ≡ to) d

-- n rows in front whose words are the witness of the question from a seat
pub record PathRows (s : List ℕ) (nodes : ℕ) (seat : Seat) (q : Question) (n : ℕ) (rows : List ℕ) : Type 0 where
  pub inside : RowsIn nodes rows n
  pub most : n ≤ length rows
  pub is : WitnessIs (seen_from s seat) (side_of q.kind) q.person q.deed q.folio (spelled_rows s (take n rows))
