-- How a text is read line by line: what the inner functions give.
-- Assumes nothing.
use Rattle.std.specs.Prelude.{ℕ, suc, Option, Some, None, IfOk, ◌*◌, ◌<◌, ◌≤◌, ◌≡◌, Bool, true, false, not, ◌&&◌, List, [], ◌∷◌, length, drop}
use Rattle.sheet.specs.Refusals.{◌is◌, ◌when◌otherwise◌, ◌or_else◌}
use Rattle.sheet.specs.declared.fault.Fault.{Fault}
use Rattle.sheet.specs.FaultNumbers.{fault_number}
use Rattle.lines.specs.declared.Line.{Line}
use Rattle.lines.specs.Naming.{is_node_line, from_line, to_line, within_itself, line_key}
use Rattle.lines.specs.LineTold.{line_told}
use Rattle.sorting.specs.Sorted.{most_sorted, four_at, Sorted}
use Rattle.listing.specs.declared.FirstFault.{FirstFault}
use Rattle.listing.specs.declared.Taken.{Taken}
use Rattle.listing.specs.Cut.{lines_said, line_at}
use Rattle.listing.specs.Faults.{says_this}

-- a byte more in front of a text, which is the byte sought or not
unfoldable pub index_after : Bool → ℕ → ℕ
index_after true i = 0
index_after false i = suc i

-- where a byte stands first in a text, or the text's length
unfoldable pub index_of : ℕ → List ℕ → ℕ
index_of x [] = 0
index_of x (b ∷ t) = index_after (b is x) (index_of x t)

-- reading has come to line i, which starts at `at`
pub record CameTo (text : List ℕ) (i at : ℕ) : Type 0 where
  pub inside : at ≤ length text
  pub passed : i ≤ at
  pub many : i ≤ length (lines_said text)
  pub rest : drop i (lines_said text) ≡ lines_said (drop at text)

-- the line that starts at `at` is taken
pub record TakesLine (text : List ℕ) (at : ℕ) (r : Taken) : Type 0 where
  pub inside : r.next ≤ length text
  pub passed : at < r.next
  pub good : IfOk r.line (λ l. l.fault ≡ 0)
  pub says : lines_said (drop at text) ≡ line_told r.line ∷ lines_said (drop r.next text)

-- a line's fault by itself: 40, 41 or 14
unfoldable pub own_fault : Line → ℕ
own_fault l = l.fault or_else (14 when within_itself l otherwise 0)

-- a fault by its number, 0 where there is none
abbrev pub fault_told : Option Fault → ℕ
fault_told None = 0
fault_told (Some f) = fault_number f

-- the first line that has such a fault, or the end of the lines
pub record LooksThrough (ls : List Line) (r : FirstFault) : Type 0 where
  pub inside : r.count ≤ length ls
  pub good : (i : ℕ) → i < r.count → own_fault (line_at ls i) ≡ 0
  pub through : fault_told r.fault ≡ 0 → r.count ≡ length ls
  pub stopped : (fault_told r.fault ≡ 0 → ⊥) → (r.count < length ls) × (fault_told r.fault ≡ own_fault (line_at ls r.count))

-- the first lines stand in a table of rows of four words
abbrev pub InTable : List Line → ℕ → List ℕ → Type 0
InTable ls count rows = (i : ℕ) → i < count → four_at rows i ≡ line_key (line_at ls i)

-- the order of the rows of a table
pub record InOrder (rows order : List ℕ) : Type 0 where
  pub few : length order ≤ most_sorted
  pub room : 4 * length order ≤ length rows
  pub sorted : Sorted rows (length order) order

-- a table of the first lines, and their order; of more lines than are sorted there is none
pub record Tabled (ls : List Line) (count : ℕ) (rows order : List ℕ) : Type 0 where
  pub inside : count ≤ length ls
  pub long : count ≤ most_sorted → length order ≡ count
  pub filled : count ≤ most_sorted → InTable ls count rows
  pub in_order : InOrder rows order

-- an end of a line has no node line among the first
abbrev pub lacks_end : List Line → ℕ → Line → Bool
lacks_end ls count l = not (is_node_line l) && not (says_this ls count (from_line l) && says_this ls count (to_line l))
