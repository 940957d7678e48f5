-- Question 4: what the inner functions tell of a lent list of words. Number and variant of category j are the words 2 + 2 * j and 3 + 2 * j.
-- Assumes nothing.
use Rattle.std.specs.Prelude.{ℕ, zero, suc, ◌+◌, ◌*◌, Bool, false, not, ◌&&◌, ◌||◌, List, [], ◌∷◌, get_or}
use Rattle.std.specs.Bool.{beq}
use Rattle.tables.specs.Office.{View}
use Rattle.paths.specs.Leads.{among, leads}
use Rattle.sheet.specs.Refusals.{◌is◌}
use Rattle.meaning.specs.Paths.{Side, step, carries}

-- every second word, m of them from a place on
abbrev pub every_second : List ℕ → ℕ → ℕ → List ℕ
every_second ws at zero = []
every_second ws at (suc m) = get_or ws at 0 ∷ every_second ws (suc (suc at)) m

-- one of every second word, m of them from a place on, is c, or is not c where `same` is false
abbrev pub has_second : List ℕ → ℕ → Bool → ℕ → ℕ → Bool
has_second ws c same at zero = false
has_second ws c same at (suc m) = beq (c is get_or ws at 0) same || has_second ws c same (suc (suc at)) m

-- the first two words are the person's, and the last four the deed's, by any variant, and the folio's, with m categories after the first
unfoldable pub framed : List ℕ → ℕ → ℕ → ℕ → ℕ → Bool
framed ws m p d f =
    get_or ws 0 0 is p && (get_or ws 1 0 is 0 && (get_or ws (4 + 2 * m) 0 is d && (get_or ws (6 + 2 * m) 0 is f && get_or ws (7 + 2 * m) 0 is 0)))

-- from the category at a place by the m after it, with the deed's variant v
unfoldable pub way_from : View → Side → ℕ → ℕ → ℕ → List ℕ → ℕ → ℕ → Bool
way_from g side d v f ws at m = leads (step g side) (carries g side d v f) (get_or ws at 0) (every_second ws (suc (suc at)) m)

-- the category at a place leads to the next and is none of the m after it
unfoldable pub goes_on : View → Side → List ℕ → ℕ → ℕ → Bool
goes_on g side ws at m = step g side (get_or ws at 0) (get_or ws (at + 2) 0) && not (among (get_or ws at 0) (every_second ws (at + 2) m))
