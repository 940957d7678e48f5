-- Runs from the deed rows of a number: what their numbers tell of each row.
-- Assumes nothing.
use Prim.Native.Nat.{ℕ, ◌<◌}
use mathlib.Core.Path.{◌≡◌, ap, ◌∙◌}
use mathlib.Core.Bool.{true}
use mathlib.Core.List.{List}
use lib.Dec.{eqb}
use lib.ListN.{length, get_or}
use borrow.Author.Tests.{eqb-true, eq-eqb}
use Rattle.sheet.specs.Kinds.{deed_type}
use Rattle.sheet.specs.declared.Header.{Header}
use Rattle.question.specs.declared.office.OfficeSheet.{OfficeSheet}
use Rattle.sheet.specs.declared.Node.{Node}
use Rattle.sheet.specs.Limits.{max_nodes}
use Rattle.sheet.specs.Rows.{node_at}
use Rattle.paths.specs.Reached.{Layers, Starts}
use Rattle.paths.proofs.Tests.{and_left, and_right, both}
use Rattle.walk.specs.declared.Walk.{Walk}
use Rattle.walk.specs.declared.walker.Tour.{Tour}
use Rattle.walk.specs.Arcs.{Steps, walk_of}
use Rattle.reach.specs.Reaching.{LeadsTo, ByDeed}
use Rattle.least.specs.Least.{starting, DeedStarts, RowsByDeed, RowsBy}
use Rattle.reach.specs.Toured.{Prepared}
use Rattle.reach.proofs.Touring.{toured}
use Rattle.reach.proofs.Marking.{some_number, number-some, starts-tell}
use Rattle.tables.specs.Count.{number_of}

-- ---- from the deed rows of a number

starting-is : (r : Node) (v number : ℕ) → starting r v number ≡ true → (r.class ≡ deed_type) × (r.number ≡ number) × (v ≡ 0 → ⊥)
unfolding starting
starting-is r v number e =
    let m = and_right (eqb r.class 3) _ e in
    (eqb-true r.class 3 (and_left (eqb r.class 3) _ e), eqb-true r.number number (and_left (eqb r.number number) _ m), some_number v (and_right (eqb r.number number) _ m))

is-starting : (r : Node) (v number : ℕ) → r.class ≡ deed_type → r.number ≡ number → (v ≡ 0 → ⊥) → starting r v number ≡ true
unfolding starting
is-starting r v number a b c = both (eq-eqb r.class 3 a) (both (eq-eqb r.number number b) (number-some v c))

-- the number at a row that was read
pub deed-start : (x y : Node) (u number v : ℕ) → x ≡ y → v ≡ number_of (starting x u number) → v ≡ number_of (starting y u number)
deed-start x y u number v e q = q ∙ ap (λ (z : Node). number_of (starting z u number)) e

pub rows-by : (s t : List ℕ) (h : Header) (w : Walk) (d : List ℕ) (number : ℕ) (r₀ r : List ℕ) → length r ≡ max_nodes → DeedStarts s h.nodes d number r₀ → Layers (Steps s t w h.edges) (Starts r₀) r → RowsByDeed s t h w d number r
rows-by s t h w d number r₀ r e st y = record { long = e; each = λ i l. starts-tell s t h w (λ x. starting (node_at s x) (get_or d x 0) number) r₀ r st y i (ByDeed s t h w d number i) (from i) to }
  where
    from : (i x : ℕ) → x < h.nodes → starting (node_at s x) (get_or d x 0) number ≡ true → LeadsTo s t h w x i → ByDeed s t h w d number i
    from i x l e m =
        let z = starting-is (node_at s x) (get_or d x 0) number e in
        record { row = x; inside = l; class = z.0; numbered = z.1; marked-so = z.2; leads = m }

    to : {i : ℕ} → ByDeed s t h w d number i → (x : ℕ) × (x < h.nodes) × (starting (node_at s x) (get_or d x 0) number ≡ true) × LeadsTo s t h w x i
    to b = (b.row, b.inside, is-starting (node_at s b.row) (get_or d b.row 0) number b.class b.numbered b.marked-so, b.leads)

-- by a right's walk over an office's sheet
pub rows-at : (o : OfficeSheet) (right : ℕ) (t : Tour) → Prepared o right t → (d : List ℕ) (number : ℕ) (r : List ℕ) → RowsBy t.walker d number r → RowsByDeed o.sheet.words.now o.sheet.edges.now o.sheet.header (walk_of o.seat right 0) d number r
rows-at o right t p d number r x = toured o right t p (λ s w. RowsByDeed s.words.now s.edges.now s.header w d number r) x
