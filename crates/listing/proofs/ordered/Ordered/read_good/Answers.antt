-- `listing::Ordered::read_good` meets its contract: 4 where there are too many to be sorted, too many nodes or too many edges; 25; else the sheet is laid.
use Prim.Native.Nat.{ℕ, ◌-◌}
use mathlib.Core.Path.{ap}
use native.Mathlib.Omega.{arith}
use Rattle.sheet.specs.Limits.{edge_place}
use Rattle.listing.proofs.ReadGood.{good-too-long, good-many-nodes, good-many-edges, good-short, good-laid}
use Rattle.listing.proofs.ordered.Ordered.read_good.Goals as goal

pub returns-then-count-gt-MOST : goal.returns-then-count-gt-MOST
returns-then-count-gt-MOST c = good-too-long _ _ _ _ c.if-count-gt-MOST.true

pub overflow_sub-e : goal.overflow_sub-e
overflow_sub-e c = omega (arith, c.place_in_order-n.ensures.inside, c.requires (omega arith))

pub returns-then-n : goal.returns-then-n
returns-then-n c = good-many-nodes _ c.args.self.now.rows.now c.args.self.now.order.now _ (omega arith) _ c.first_edge.ensures _ c.place_in_order-n.ensures c.if-n.true

pub returns-then-max_edges-e : goal.returns-then-max_edges-e
returns-then-max_edges-e c = good-many-edges _ c.args.self.now.rows.now c.args.self.now.order.now _ (omega arith) _ c.first_edge.ensures _ c.place_in_order-n.ensures (omega arith) (omega (arith, c.max_edges.ensures, c.if-max_edges-e.true))

pub returns-then-out-size : goal.returns-then-out-size
returns-then-out-size c =
    good-short _ c.args.self.now.rows.now c.args.self.now.order.now _ (omega arith) _ c.first_edge.ensures _ c.place_in_order-n.ensures (omega arith) (omega (arith, c.max_edges.ensures, c.if-max_edges-e.false)) _ c.sheet_words-size.ensures c.if-out-size.true

pub lay_sheet-requires : goal.lay_sheet-requires
lay_sheet-requires c =
    let long = c.requires (omega arith) in
    let size = c.sheet_words-size.ensures in
    let same = ap (λ (m : ℕ). edge_place 1 (m - c.place_in_order-n.result)) long in
    let inside = c.place_in_order-n.ensures.inside in
    (omega arith, omega arith, omega (arith, c.max_edges.ensures, c.if-max_edges-e.false), omega arith)

pub returns : goal.returns
returns c =
    good-laid _ c.args.self.now.rows.now c.args.self.now.order.now _ (omega arith) _ c.first_edge.ensures _ c.place_in_order-n.ensures (omega arith) (omega (arith, c.max_edges.ensures, c.if-max_edges-e.false)) _ c.sheet_words-size.ensures _ (c.requires (omega arith)) (omega arith) c.lay_sheet.ensures
