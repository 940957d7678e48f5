-- What the desks are promised of a row that is added (request 2026-03): where it goes, what stays, and what it changes.
-- Assumes nothing.
use Rattle.std.specs.Prelude.{ℕ, ◌+◌, ◌≤◌, ◌≡◌, Bool, false, ◌&&◌, ◌||◌, List, ◌↔◌, length}
use Rattle.tables.specs.Count.{how_many, has}
use Rattle.tables.specs.Key.{Key, same_key}
use Rattle.tables.specs.Marks.{marked}
use Rattle.tables.specs.Office.{Same}
use Rattle.sheet.specs.declared.Cells.{Cells}
use Rattle.sheet.specs.declared.Half.{Half}
use Rattle.sheet.specs.declared.Half.TheVariants.{Nodes, Edges}
use Rattle.sheet.specs.Rows.{header_of, count_in, row_words, row_key}
use Rattle.sheet.specs.Accepted.{Accepted}
use Rattle.sheet.specs.Found.{PlaceIs}
use Rattle.sheet.specs.Named.{row_at, held_at, seen_at}
use Rattle.meaning.specs.Paths.{Side, HasPath}
use Rattle.meaning.specs.Join.{IsJoin}
use Rattle.meaning.specs.Added.{other_half, key_named, held_in, IsAdded}
use Rattle.question.specs.declared.Question.{Question}
use Rattle.question.specs.declared.Answer.{Answer}
use Rattle.question.specs.Asked.{after_sheet}
use Rattle.question.specs.Replies.{tells}
use Rattle.ask.specs.Promises.{AnswersAtOffice}
use Rattle.find.specs.Promises.{TellsPlace}
use Rattle.add.specs.Adding.{add_fault, AddsRow}
use Rattle.demands.specs.Demands.{front}

-- a row of the half names this, and where it stands or would stand by what the rows name
abbrev pub names_one : Half → List ℕ → Key → Bool
names_one half s k = has (count_in half (header_of s)) (λ x. (row_at half s x).key) k

abbrev pub PlaceIn : Half → List ℕ → Key → ℕ → Type 0
PlaceIn half s k i = PlaceIs (λ x. (row_at half s x).key) (count_in half (header_of s)) k i

-- the row c was added to s: t was written, and the row told
pub record WasAdded (half : Half) (s : List ℕ) (c : Cells) (t : List ℕ) (row : ℕ) : Type 0 where
  pub out : List ℕ
  pub answer : Answer
  pub written : List ℕ
  pub replies : AddsRow half s c out answer written
  pub not-refused : answer.number ≡ 0
  pub sheet : front answer written ≡ t
  pub told : answer.value ≡ row

pub record Additions : Type 0 where
  -- a row of which nothing is refused is added wherever the words of one row more have room
  pub is-added : (half : Half) (s : List ℕ) (c : Cells) (out : List ℕ) {a : Answer} {out' : List ℕ} → Accepted s → add_fault half s c ≡ 0 → length s + row_words half (header_of s).form ≤ length out → AddsRow half s c out a out' → a.number ≡ 0
  -- what is written is the sheet with that row more, and there is one such sheet
  pub by-tables : (half : Half) (s : List ℕ) (c : Cells) (t : List ℕ) (row : ℕ) → WasAdded half s c t row → IsAdded half s c t
  pub one_way : (half : Half) (s : List ℕ) (c : Cells) (t u : List ℕ) → IsAdded half s c t → IsAdded half s c u → t ≡ u
  -- it has one row more, and of the other half as many
  pub one_more : (half : Half) (s : List ℕ) (c : Cells) (t : List ℕ) (row : ℕ) → WasAdded half s c t row
      → (count_in half (header_of t) ≡ count_in half (header_of s) + 1) × (count_in (other_half half) (header_of t) ≡ count_in (other_half half) (header_of s))
  -- each office holds what it held, and the row where it is marked with the office
  pub by-offices : (half : Half) (s : List ℕ) (c : Cells) (t : List ℕ) (row : ℕ) → WasAdded half s c t row → (office : ℕ) (k : Key)
      → (held_in half (held_at t office) k ≡ (held_in half (held_at s office) k || (same_key k (key_named half s c) && marked c.offices office))) × (held_in (other_half half) (held_at t office) k ≡ held_in (other_half half) (held_at s office) k)
  -- what was added is found, at the row that was told
  pub found-there : (half : Half) (s : List ℕ) (c : Cells) (t : List ℕ) (row : ℕ) → WasAdded half s c t row → {a : Answer} → TellsPlace half t (row_key c) a → a ≡ tells 1 row
  -- adding a node changes no path of any office, known numbers or not ..
  pub node-no-path : (s : List ℕ) (c : Cells) (t : List ℕ) (row : ℕ) → WasAdded Nodes s c t row → (office : ℕ) (side : Side) (p d f : ℕ) → HasPath (seen_at s office) side p d f ↔ HasPath (seen_at t office) side p d f
  -- .. and so no answer of question 1
  pub node-no-answer : (s : List ℕ) (c : Cells) (t : List ℕ) (row : ℕ) → WasAdded Nodes s c t row → (q : Question) {x y : Answer} → AnswersAtOffice (after_sheet s) s q x → x.number ≡ 0 → AnswersAtOffice (after_sheet t) t q y → x ≡ y
  -- adding an edge at an office changes nothing at any other: what it holds ..
  pub edge-elsewhere : (s : List ℕ) (c : Cells) (t : List ℕ) (row : ℕ) → WasAdded Edges s c t row → (office : ℕ) → marked c.offices office ≡ false → Same (held_at t office) (held_at s office)
  -- .. and what it is answered, refusals included
  pub edge-no-answer : (s : List ℕ) (c : Cells) (t : List ℕ) (row : ℕ) → WasAdded Edges s c t row → (q : Question) → marked c.offices q.office ≡ false → {x y : Answer} → AnswersAtOffice (after_sheet s) s q x → AnswersAtOffice (after_sheet t) t q y → x ≡ y
  -- joining puts a row there too: its place in the joint sheet, and the rows before it that both sheets have, are its places in the two sheets together
  pub joint-place : (half : Half) (a b j : List ℕ) → Accepted a → Accepted b → IsJoin a b j → (k : Key) (i p q : ℕ) → PlaceIn half a k i → PlaceIn half b k p → PlaceIn half j k q → q + how_many (λ z. names_one half a (row_at half j z).key && names_one half b (row_at half j z).key) q ≡ i + p
