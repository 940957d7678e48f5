-- What the inner functions of a question are handed behind the check.
-- Assumes nothing.
use Rattle.std.specs.Prelude.{ℕ, List}
use Rattle.sheet.specs.declared.Header.{Header}
use Rattle.sheet.specs.declared.Seat.{Seat}
use Rattle.sheet.specs.Accepted.{WellFormed}
use Rattle.tables.specs.Office.{View}
use Rattle.sheet.specs.Seats.{Seated, seen_from}
use Rattle.question.specs.declared.office.OfficeSheet.{OfficeSheet}

-- a sheet's words with their edge table and header, at a seat
pub record AtSeat (s t : List ℕ) (h : Header) (seat : Seat) : Type 0 where
  pub formed : WellFormed s t h
  pub seated : Seated seat

-- what is seen of a sheet from the seat at which it is asked
abbrev pub seen_at_seat : OfficeSheet → View
seen_at_seat o = seen_from o.sheet.words.now o.seat
