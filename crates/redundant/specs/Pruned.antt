-- Question 10: the walks by which a row is judged, where that row's step is left out; and whether a row is a ban of the office.
-- Assumes nothing.
use Rattle.std.specs.Prelude.{ℕ, Bool, ◌&&◌, List, Some}
use Rattle.tables.specs.Count.{some_row}
use Rattle.sheet.specs.Kinds.{ban_kind}
use Rattle.sheet.specs.declared.Edge.{Edge}
use Rattle.sheet.specs.declared.Header.{Header}
use Rattle.sheet.specs.declared.Seat.{Seat}
use Rattle.sheet.specs.Refusals.{◌is◌}
use Rattle.sheet.specs.Rows.{edge_at}
use Rattle.sheet.specs.Seats.{counts_at}
use Rattle.question.specs.declared.office.OfficeSheet.{OfficeSheet}
use Rattle.walk.specs.declared.walker.Walker.{Walker}
use Rattle.walk.specs.declared.Step.{Step}
use Rattle.walk.specs.Arcs.{walk_of, leaving_out}
use Rattle.reach.specs.Reaching.{LeadsTo}

-- the step that a row makes: the rows of its ends
abbrev pub step_of : Edge → Step
step_of e = record { from = e.from; to = e.to }

-- other steps lead from a row's one end to the other, by the walk to rights of a kind
abbrev pub LeadsPast : List ℕ → List ℕ → Header → Seat → ℕ → Edge → Type 0
LeadsPast s t h seat right e = LeadsTo s t h (leaving_out (walk_of seat right 0) (Some (step_of e))) e.from e.to

-- the same by a walk over a sheet
abbrev pub LedPast : Walker → Edge → Type 0
LedPast w e = LeadsTo w.sheet.words.now w.sheet.edges.now w.sheet.header (leaving_out w.walk (Some (step_of e))) e.from e.to

-- row j counts for the seat and is a ban
abbrev pub ban_at : List ℕ → Header → Seat → ℕ → Bool
ban_at t h seat j = counts_at seat (edge_at h t j) && (edge_at h t j).kind is ban_kind

-- the office has a ban row
abbrev pub has_ban : OfficeSheet → Bool
has_ban o = some_row (ban_at o.sheet.edges.now o.sheet.header o.seat) o.sheet.header.edges
