-- `Combination::lay` meets its contract: header, node rows and edge rows, each written behind the one before.
use Prim.Native.Nat.{◌+◌, ◌*◌}
use mathlib.Core.Path.{refl, ap}
use native.Mathlib.Omega.{arith}
use Rattle.sheet.specs.Limits.{edge_place}
use Rattle.sheet.proofs.Widths.{few}
use Rattle.sheet.proofs.Tails.{first-room, second-room}
use Rattle.combine.proofs.Whole.{half-written, half-room, laid_by}
use Rattle.combine.proofs.combination.Combination.lay.Goals as goal

pub overflow_cast-m-2 : goal.overflow_cast-m-2
overflow_cast-m-2 c = omega (arith, (few _ _ c.requires.2).0)

pub write-requires : goal.write-requires
write-requires c = let P = c.requires in
    omega (arith, half-room _ _ _ c.half.ensures, P.0.node-rows.count, first-room c.args.self.now.first.now.header.form c.put_header.new.out c.args.m.nodes c.args.m.edges (omega (arith, P.3, c.put_header.auto.out)))

pub write-requires-2 : goal.write-requires-2
write-requires-2 c =
    let P = c.requires in
    let form = c.args.self.now.first.now.header.form in
    omega (arith, half-room _ _ _ c.half-2.ensures, ap (edge_place form) P.0.edge-rows, second-room c.put_header.new.out c.write.new.out 6 (6 + 4 * c.args.m.nodes) (edge_place form c.args.m.edges) (omega (arith, P.3)) c.write.auto.out (omega (arith, P.3, c.put_header.auto.out)))

pub returns : goal.returns
returns c = let P = c.requires in
    laid_by _ _ _ _ _ _ _ _ _ _ c.args.self.now.sound P.0 P.1 P.2 _ _ P.3 c.put_header.ensures _ (half-written _ _ _ c.half.ensures _ _ _ _ c.write.ensures) _ refl _ (half-written _ _ _ c.half-2.ensures _ _ _ _ c.write-2.ensures)
