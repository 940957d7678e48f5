-- What refuses a listing: the first line that has a fault, and of its faults the first of 40, 41, 42, 14; after the last line 43, then 4.
-- Assumes nothing.
use Rattle.std.specs.Prelude.{ℕ, Bool, not, ◌&&◌, ◌||◌, List, length}
use Rattle.tables.specs.Count.{how_many, some_row}
use Rattle.sheet.specs.declared.Refusal.{Refusal}
use Rattle.sheet.specs.Limits.{max_nodes, max_edges}
use Rattle.sheet.specs.Refusals.{◌below◌, ◌when◌otherwise◌, ◌or_else◌, none, refuse, ◌then◌, first_row}
use Rattle.lines.specs.declared.Line.{Line}
use Rattle.lines.specs.Naming.{is_node_line, from_line, to_line, within_itself, same_line}
use Rattle.listing.specs.Cut.{lines_said, line_at}

-- one of the first n lines says this
unfoldable pub says_this : List Line → ℕ → Line → Bool
says_this ls n l = some_row (λ j. same_line (line_at ls j) l) n

-- a line's own fault. 40 not one of the nine, or lacks its line feed; 41 a number that is 0, has a leading zero or exceeds 4,294,967,295
-- (both are what the line says); 42 a repeated row; 14 a category within itself
unfoldable pub line_fault : List Line → ℕ → ℕ
line_fault ls i =
    (line_at ls i).fault or_else
    (42 when says_this ls i (line_at ls i) otherwise
    14 when within_itself (line_at ls i) otherwise
    0)

-- 43 an edge line whose end has no node line
unfoldable pub end_fault : List Line → ℕ → ℕ
end_fault ls i = 43 when not (is_node_line (line_at ls i)) && not (says_this ls (length ls) (from_line (line_at ls i)) && says_this ls (length ls) (to_line (line_at ls i))) otherwise 0

-- how many node lines, and how many edge lines
unfoldable pub node_lines : List Line → ℕ
node_lines ls = how_many (λ i. is_node_line (line_at ls i)) (length ls)

unfoldable pub edge_lines : List Line → ℕ
edge_lines ls = how_many (λ i. not (is_node_line (line_at ls i))) (length ls)

-- 4 above 512 nodes or above 2,048 edges, the sheet being of form 1
unfoldable pub count_fault : List Line → ℕ
count_fault ls = 4 when max_nodes below node_lines ls || max_edges 1 below edge_lines ls otherwise 0

-- the refusal of lines: by line at sheet 0 and the line, counted from 0; 4 at place 0, 0
unfoldable pub lines_fault : List Line → Refusal
lines_fault ls = first_row 0 (line_fault ls) 0 (length ls) then first_row 0 (end_fault ls) 0 (length ls) then refuse (count_fault ls) 0 0 none

-- the refusal of a text
abbrev pub listing_fault : List ℕ → Refusal
listing_fault text = lines_fault (lines_said text)
