-- The nine lines of a listing, beside the request's examples, and what is wrong with any other.
-- Assumes nothing.
use Rattle.std.specs.Prelude.{ℕ, suc, ◌-◌, Bool, true, false, not, cond, ◌&&◌, ◌||◌, List, [], ◌∷◌, ◌++◌, get_or}
use Prim.Native.Char.{code}
use Prim.Native.String as String
use Rattle.text.specs.Growing.{decimal, end_of_line}
use Rattle.sheet.specs.Refusals.{◌is◌}
use Rattle.lines.specs.declared.Line.{Line}
use Rattle.lines.specs.Numerals.{digits_of, behind_digits, value_of, bad_number}

-- the bytes of a text's characters
abbrev pub characters : String.String → List ℕ
characters String.[] = []
characters (String.◌∷◌ c s) = code c ∷ characters s

-- person 11, category 21, deed 31/1, folio 41, in 11 21, within 21 22, grant 22 31/1, ban 21 31/2, applies 31/1 41.
-- A # stands for a number and a % for a deed's variant, and every other character for itself
abbrev pub nine : List (List ℕ)
nine =
    characters "person #" ∷
    characters "category #" ∷
    characters "deed #/%" ∷
    characters "folio #" ∷
    characters "in # #" ∷
    characters "within # #" ∷
    characters "grant # #/%" ∷
    characters "ban # #/%" ∷
    characters "applies #/% #" ∷
    []

-- a character that stands for a variant, which may be 0, or for any number
abbrev pub of_variant : ℕ → Bool
of_variant p = p is 37

abbrev pub of_number : ℕ → Bool
of_number p = p is 35 || of_variant p

-- what a line is by a pattern: whether it is such a line, whether its numbers are good, and its numbers in order
pub record Fitted : Type 0 where
  pub fits : Bool
  pub good : Bool
  pub numbers : List ℕ

-- no such line
abbrev pub unlike : Fitted
unlike = record { fits = false; good = false; numbers = [] }

-- digits where the pattern has a number: there is one at least
unfoldable pub with_number : ℕ → List ℕ → Fitted → Fitted
with_number p [] rest = unlike
with_number p (d ∷ ds) rest = record { fits = rest.fits; good = not (bad_number (of_variant p) (d ∷ ds)) && rest.good; numbers = value_of (d ∷ ds) ∷ rest.numbers }

-- a line by a pattern
unfoldable pub fitted : List ℕ → List ℕ → Fitted
fitted [] [] = record { fits = true; good = true; numbers = [] }
fitted [] (b ∷ t) = unlike
fitted (p ∷ ps) [] = unlike
fitted (p ∷ ps) (b ∷ t) = cond (of_number p) (with_number p (digits_of (b ∷ t)) (fitted ps (behind_digits (b ∷ t)))) (cond (p is b) (fitted ps t) unlike)

-- a refused line
abbrev pub faulty : ℕ → Line
faulty k = record { fault = k; form = 0; first = 0; second = 0; third = 0 }

-- a line of the form k with these numbers, or 41
abbrev pub line_of : ℕ → Fitted → Line
line_of k f = cond f.good (record { fault = 0; form = k; first = get_or f.numbers 0 0; second = get_or f.numbers 1 0; third = get_or f.numbers 2 0 }) (faulty 41)

-- the first of these patterns that a line fits, from the form k on; 40 a line that fits none
unfoldable pub first_fit : ℕ → List (List ℕ) → List ℕ → Line
first_fit k [] l = faulty 40
first_fit k (p ∷ ps) l = cond (fitted p l).fits (line_of k (fitted p l)) (first_fit (suc k) ps l)

-- what a line says: its form, 1 to 9 in the order of the nine, and its numbers; or its fault, 40 or 41
unfoldable pub said : List ℕ → Line
said l = first_fit 1 nine l

-- ---- the same patterns, written

-- a pattern with its numbers put in
unfoldable pub spelled_by : List ℕ → List ℕ → List ℕ
spelled_by [] ns = []
spelled_by (p ∷ ps) [] = cond (of_number p) (spelled_by ps []) (p ∷ spelled_by ps [])
spelled_by (p ∷ ps) (n ∷ ns) = cond (of_number p) (decimal n ++ spelled_by ps ns) (p ∷ spelled_by ps (n ∷ ns))

-- the numbers of a line
abbrev pub numbers_of : Line → List ℕ
numbers_of l = l.first ∷ l.second ∷ l.third ∷ []

-- a line's bytes, its line feed with them
unfoldable pub line_text : Line → List ℕ
line_text l = spelled_by (get_or nine (l.form - 1) []) (numbers_of l) ++ end_of_line

-- room for any line: the longest pattern has 14 characters, its line feed with them, and each makes ten bytes at most
abbrev pub line_room : ℕ
line_room = 140
