-- What was written or what refuses it, as the struct that C takes.
-- Assumes nothing.
use Rattle.std.specs.Prelude.{ℕ, Result, Ok, Err}
use Rattle.sheet.specs.declared.Refusal.{Refusal}
use Rattle.sheet.specs.declared.fault.Fault.{Fault}
use Rattle.sheet.specs.FaultNumbers.{fault_number}
use Rattle.listing.specs.declared.Listing.{Listing}
use Rattle.listing.specs.declared.TextRefusal.{TextRefusal}

-- so many words or bytes
abbrev pub rows_counted : ℕ → Listing
rows_counted n = record { number = 0; sheet = 0; row = 0; count = n }

-- .. or the refusal of a text, by a line of it
abbrev pub listing_told : Result ℕ TextRefusal → Listing
listing_told (Ok n) = rows_counted n
listing_told (Err r) = record { number = fault_number r.fault; sheet = 0; row = r.line; count = 0 }

-- .. or that of a sheet
abbrev pub listing_of : Result ℕ Refusal → Listing
listing_of (Ok n) = rows_counted n
listing_of (Err r) = record { number = r.number; sheet = r.sheet; row = r.row; count = 0 }

-- .. or one that has no place
abbrev pub listing_by : Result ℕ Fault → Listing
listing_by (Ok n) = rows_counted n
listing_by (Err f) = record { number = fault_number f; sheet = 0; row = 0; count = 0 }
