-- What is so of a walk over a sheet is so of the office's sheet and of the right's walk from its seat.
-- Assumes nothing.
use Prim.Native.Nat.{ℕ}
use mathlib.Core.Path.{subst}
use mathlib.Core.List.{List}
use Rattle.sheet.specs.declared.formed.Sheet.{Sheet}
use Rattle.question.specs.declared.office.OfficeSheet.{OfficeSheet}
use Rattle.walk.specs.declared.Walk.{Walk}
use Rattle.walk.specs.declared.walker.Tour.{Tour}
use Rattle.walk.specs.Arcs.{walk_of}
use Rattle.reach.specs.Reaching.{ReachedFrom}
use Rattle.reach.specs.Toured.{Prepared, ReachedBy}

pub toured : (o : OfficeSheet) (right : ℕ) (t : Tour) → Prepared o right t → (P : Sheet → Walk → Type 0) → P t.walker.sheet t.walker.walk → P o.sheet (walk_of o.seat right 0)
toured o right t p P x = subst (P o.sheet) p.walks (subst (λ (s : Sheet). P s t.walker.walk) p.over x)

-- a walk's numbers from one row
pub reached-at : (o : OfficeSheet) (right : ℕ) (t : Tour) → Prepared o right t → (from : ℕ) (d : List ℕ) → ReachedBy t.walker from d → ReachedFrom o.sheet.words.now o.sheet.edges.now o.sheet.header (walk_of o.seat right 0) from d
reached-at o right t p from d x = toured o right t p (λ s w. ReachedFrom s.words.now s.edges.now s.header w from d) x
