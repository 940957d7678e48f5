-- A text's lines, and what each says.
-- Assumes nothing.
use Rattle.std.specs.Prelude.{ℕ, cond, List, [], ◌∷◌, ◌++◌, get_or}
use Rattle.sheet.specs.Refusals.{◌is◌}
use Rattle.lines.specs.declared.Line.{Line}
use Rattle.lines.specs.Nine.{faulty, said}

-- a text cut at its line feeds: the lines that they end, and what is left behind the last
pub record Cut : Type 0 where
  pub ended : List (List ℕ)
  pub left : List ℕ

-- a byte more, in front of the first line
unfoldable pub begun : ℕ → Cut → Cut
begun b c = record { ended = into c.ended; left = over c.ended }
  where
    into : List (List ℕ) → List (List ℕ)
    into [] = []
    into (l ∷ ls) = (b ∷ l) ∷ ls

    over : List (List ℕ) → List ℕ
    over [] = b ∷ c.left
    over (l ∷ ls) = c.left

-- a text, cut
unfoldable pub cut_up : List ℕ → Cut
cut_up [] = record { ended = []; left = [] }
cut_up (b ∷ t) = cond (b is 10) (record { ended = [] ∷ (cut_up t).ended; left = (cut_up t).left }) (begun b (cut_up t))

-- what each of these lines says
abbrev pub each_said : List (List ℕ) → List Line
each_said [] = []
each_said (l ∷ ls) = said l ∷ each_said ls

-- what is left is a line that lacks its line feed: 40
abbrev pub unended : List ℕ → List Line
unended [] = []
unended (b ∷ t) = faulty 40 ∷ []

-- what each line of a text says
unfoldable pub lines_said : List ℕ → List Line
lines_said text = each_said (cut_up text).ended ++ unended (cut_up text).left

-- line i of those
abbrev pub line_at : List Line → ℕ → Line
line_at ls i = get_or ls i (faulty 40)
