-- What lines mean is one sheet.
-- Assumes nothing.
use Prim.Native.Nat.{ℕ, zero, suc, ◌<◌}
use mathlib.Core.Path.{◌≡◌, sym, ◌∙◌}
use mathlib.Core.List.{List}
use native.Mathlib.Omega.{arith}
use Rattle.tables.specs.Office.{Same}
use Rattle.sheet.specs.Named.{held_at}
use Rattle.sheet.specs.Rows.{header_of}
use Rattle.sheet.proofs.Whole.{sheet-alike}
use Rattle.lines.specs.declared.Line.{Line}
use Rattle.listing.specs.Meant.{Means}

-- two sheets that the same lines mean are the same words
pub means-one : (ls : List Line) (s t : List ℕ) → Means ls s → Means ls t → s ≡ t
means-one ls s t a b = sheet-alike s t a.accepted b.accepted (a.one-office ∙ sym b.one-office) each
  where
    each : (i : ℕ) → i < (header_of s).offices → Same (held_at s (suc i)) (held_at t (suc i))
    each zero h = record { nodes = λ k. a.nodes k ∙ sym (b.nodes k); edges = λ k. a.edges k ∙ sym (b.edges k) }
    each (suc i) h = absurd (omega (arith, a.one-office))
