-- The table of open emergencies: what its places say, the table after a row, and which history it stands for.
-- Assumes nothing.
use Rattle.std.specs.Prelude.{ℕ, suc, ◌+◌, ◌≤◌, ◌≡◌, Bool, true, false, cond, ◌||◌, List, [], ◌∷◌, length, set, replicate, Option, position, Result, Ok, Err}
use Rattle.sheet.specs.declared.fault.Fault.{Fault}
use Rattle.sheet.specs.FaultNumbers.{fault_number}
use Rattle.sheet.specs.Refusals.{◌is◌, ◌below◌}
use Rattle.watch.specs.History.{changed, start_kind, end_kind, max_held, some, Routed, bad_row, offices_for, held_before, last_minute}
use Rattle.watch.specs.declared.TraceRow.{TraceRow}
use Rattle.watch.specs.declared.Emergency.{Emergency}
use Rattle.watch.specs.declared.Watch.{Watch}

-- the table after a row, and what the row is told
pub record Moved : Type 0 where
  pub watch : Watch
  pub routed : Routed

-- .. as the code tells it: how many offices, or what refuses the row
abbrev pub told_row : Result ℕ Fault → Routed
told_row (Ok n) = record { number = 0; offices = n }
told_row (Err f) = record { number = fault_number f; offices = 0 }

-- .. of the table that it leaves
abbrev pub moved : Watch → Result ℕ Fault → Moved
moved w r = record { watch = w; routed = told_row r }

-- a start at minute m, before `bound`, holds at minute t
unfoldable pub covers_minute : ℕ → ℕ → ℕ → ℕ → Bool
covers_minute m bound t timeout = cond (t below (m + timeout)) (m below bound) false

-- the place is used, and names folio f
unfoldable pub names_folio : ℕ → Emergency → Bool
names_folio f p = cond (p.mark is 0) false (f is p.folio)

-- by this place some start before `bound` holds folio f at minute t
unfoldable pub place_held : ℕ → ℕ → ℕ → ℕ → Emergency → Bool
place_held bound t timeout f p = cond (names_folio f p) (cond (covers_minute p.latest bound t timeout) true (covers_minute p.earlier bound t timeout)) false

-- an empty place
abbrev pub empty_place : Emergency
empty_place = record { mark = 0; folio = 0; latest = 0; earlier = 0 }

-- a place that has not expired, after a row of its folio: an end empties it, a start of a later minute is its latest
unfoldable pub turned_by : TraceRow → Emergency → Emergency
turned_by r p =
    cond (r.kind is end_kind) empty_place
    (cond (r.kind is start_kind) (cond (p.latest below r.minute) (record { mark = p.mark; folio = p.folio; latest = r.minute; earlier = p.latest }) p) p)

-- a place after a row: an expired one is emptied
unfoldable pub place_after : TraceRow → ℕ → Emergency → Emergency
place_after r timeout p = cond (p.mark is 0) empty_place (cond (r.minute below (p.latest + timeout)) (cond (p.folio is r.folio) (turned_by r p) p) empty_place)

-- a folio's first start
abbrev pub fresh : TraceRow → Emergency
fresh r = record { mark = 1; folio = r.folio; latest = r.minute; earlier = r.minute }

-- the first empty place, the table's length where there is none
unfoldable pub free_at : List Emergency → ℕ
free_at [] = 0
free_at (p ∷ ps) = cond (p.mark is 0) 0 (suc (free_at ps))

-- .. as a search tells it, none where there is none
abbrev pub free_place : List Emergency → Option ℕ
free_place ps = position (λ p. p.mark is 0) ps

-- some folio is named in two places
unfoldable pub doubled : List Emergency → Bool
doubled [] = false
doubled (p ∷ ps) = cond (p.mark is 0) (doubled ps) (some (names_folio p.folio) ps || doubled ps)

-- a refused row leaves the table unchanged
unfoldable pub refused_row : Watch → ℕ → Moved
refused_row w k = record { watch = w; routed = record { number = k; offices = 0 } }

-- a row taken, with the places that it leaves
unfoldable pub taken_row : TraceRow → List Emergency → ℕ → Moved
taken_row r ps offices = record { watch = record { last = r.minute; places = ps }; routed = record { number = 0; offices = offices } }

-- a start: of a folio that is named, or in the first empty place, or 51
unfoldable pub started_row : Watch → TraceRow → List Emergency → Moved
started_row w r ps = cond (some (names_folio r.folio) ps) (taken_row r ps 0) (cond (free_at ps below max_held) (taken_row r (set ps (free_at ps) (fresh r)) 0) (refused_row w 51))

-- a good row, over the places after it
unfoldable pub entered : Watch → ℕ → TraceRow → List Emergency → Moved
entered w timeout r ps = cond (r.kind is start_kind) (started_row w r ps) (taken_row r ps (offices_for r (some (place_held r.minute r.minute timeout r.folio) ps)))

-- the table and what is told after a row, where no folio is named twice
unfoldable pub advanced : Watch → ℕ → TraceRow → Moved
advanced w timeout r = cond (r.minute below w.last) (refused_row w 50) (cond (bad_row r) (refused_row w 54) (entered w timeout r (changed (place_after r timeout) w.places)))

-- the empty table
abbrev pub empty_watch : Watch
empty_watch = record { last = 0; places = replicate max_held empty_place }

-- no place's minute is after n, and each place's two minutes are in order
unfoldable pub Timed : ℕ → List Emergency → Type 0
Timed n [] = Unit {0}
Timed n (p ∷ ps) = (p.latest ≤ n) × (p.earlier ≤ p.latest) × Timed n ps

-- the table stands for the history: of every folio it holds what the history holds, from the last row's minute on
pub record TableStands (w : Watch) (h : List TraceRow) (timeout : ℕ) : Type 0 where
  pub size : length w.places ≡ max_held
  pub last : w.last ≡ last_minute h
  pub once : doubled w.places ≡ false
  pub timed : Timed w.last w.places
  pub same : (f bound t : ℕ) → w.last ≤ bound → w.last ≤ t → some (place_held bound t timeout f) w.places ≡ held_before bound h f t timeout
