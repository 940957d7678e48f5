-- The steps of a walk over a sheet.
-- Assumes nothing.
use Rattle.std.specs.Prelude.{ℕ}
use Rattle.walk.specs.declared.walker.Walker.{Walker}
use Rattle.walk.specs.Arcs.{Steps, reversed}

-- a step by any row of the sheet's edge table
abbrev pub steps_of : Walker → ℕ → ℕ → Type 0
steps_of w = Steps w.sheet.words.now w.sheet.edges.now w.walk w.sheet.header.edges

-- .. of the walk the other way
abbrev pub steps_back : Walker → ℕ → ℕ → Type 0
steps_back w = Steps w.sheet.words.now w.sheet.edges.now (reversed w.walk) w.sheet.header.edges
