-- A walk from all persons' rows: what its numbers tell of each row.
-- Assumes nothing.
use Prim.Native.Nat.{ℕ}
use mathlib.Core.Path.{◌≡◌, refl}
use mathlib.Core.Bool.{Bool, true, false}
use mir.Val.{bool_byte}
use Rattle.tables.specs.Count.{number_of}
use mathlib.Core.List.{List}
use lib.Dec.{eqb}
use lib.ListN.{length}
use borrow.Author.Tests.{eqb-true, eq-eqb}
use Rattle.sheet.specs.declared.Header.{Header}
use Rattle.sheet.specs.Limits.{max_nodes}
use Rattle.sheet.specs.Rows.{node_at}
use Rattle.paths.specs.Reached.{Layers, Starts}
use Rattle.walk.specs.declared.Walk.{Walk}
use Rattle.walk.specs.Arcs.{Steps}
use Rattle.reach.specs.Reaching.{Started}
use Rattle.lists.specs.Picked.{FromPersons, PersonsLead}
use Rattle.reach.proofs.Marking.{starts-tell}

-- a test as a number
pub byte-number : (b : Bool) → bool_byte b ≡ number_of b
byte-number true = refl
byte-number false = refl

-- ---- from the persons' rows

pub persons-lead : (s t : List ℕ) (h : Header) (w : Walk) (r₀ r : List ℕ) → length r ≡ max_nodes → Started (λ i. eqb (node_at s i).class 1) h.nodes r₀ → Layers (Steps s t w h.edges) (Starts r₀) r → PersonsLead s t h w r
persons-lead s t h w r₀ r e st y =
    record {
      long = e;
      each = λ i l. starts-tell s t h w (λ x. eqb (node_at s x).class 1) r₀ r st y i (FromPersons s t h w i) (λ x l q m. record { row = x; inside = l; class = eqb-true _ 1 q; leads = m }) (λ b. (b.row, b.inside, eq-eqb _ 1 b.class, b.leads));
    }
