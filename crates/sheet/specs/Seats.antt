-- From where a sheet is asked, and which of its rows count there.
-- Assumes nothing.
use Rattle.std.specs.Prelude.{ℕ, ◌-◌, ◌^◌, ◌<◌, ◌≡◌, Bool, List}
use Rattle.tables.specs.Marks.{marked}
use Rattle.tables.specs.Office.{View}
use Rattle.sheet.specs.declared.Edge.{Edge}
use Rattle.sheet.specs.declared.Seat.{Seat}
use Rattle.sheet.specs.Named.{seen_at}

-- an office's seat: its number, and its mark
abbrev pub seat_at : ℕ → Seat
seat_at office = record { office = office; mark = 2 ^ (office - 1) }

-- a seat with its office's own mark; there is no office 0
pub record Seated (seat : Seat) : Type 0 where
  pub office : 0 < seat.office
  pub mark : seat.mark ≡ 2 ^ (seat.office - 1)

-- an edge row counts: it bears the office's mark
abbrev pub counts_at : Seat → Edge → Bool
counts_at seat e = marked e.offices seat.office

-- what is seen of the sheet from a seat
abbrev pub seen_from : List ℕ → Seat → View
seen_from s seat = seen_at s seat.office
