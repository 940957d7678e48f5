-- What a walk over a sheet is for, and what its numbers tell of each row.
-- Assumes nothing.
use Rattle.std.specs.Prelude.{ℕ, ◌≡◌, List}
use Rattle.question.specs.declared.office.OfficeSheet.{OfficeSheet}
use Rattle.walk.specs.declared.walker.Walker.{Walker}
use Rattle.walk.specs.declared.walker.Tour.{Tour}
use Rattle.walk.specs.Arcs.{walk_of}
use Rattle.reach.specs.Reaching.{ReachedFrom}

-- the walk of a right (3 grant, 4 ban) for any deed, over an office's sheet
pub record Prepared (o : OfficeSheet) (right : ℕ) (t : Tour) : Type 0 where
  pub over : t.walker.sheet ≡ o.sheet
  pub walks : t.walker.walk ≡ walk_of o.seat right 0

-- a walk's numbers from one row
abbrev pub ReachedBy : Walker → ℕ → List ℕ → Type 0
ReachedBy w from d = ReachedFrom w.sheet.words.now w.sheet.edges.now w.sheet.header w.walk from d
