use Prim.Native.Nat.{ℕ, ◌+◌, ◌*◌}
use mathlib.Core.List.{[], ◌∷◌, ◌++◌}
use mathlib.Core.Path.{◌≡◌, refl, ap, ◌∙◌}
use native.Mathlib.Omega.{arith}
use lib.ListN.{length, drop, get_or}
use lib.Seq.{sets}
use Rattle.ask.proofs.Shortest.{spelled-long}
use Rattle.ask.proofs.Showing.{nodes-next, two-stores}
use Rattle.ask.specs.PathRows.{spelled_rows}
use Rattle.sheet.proofs.Writing.{front_of, front-run, front-done}
use Rattle.sheet.specs.Rows.{node_at}
use Rattle.sheet.specs.declared.Node.{Node}
use Rattle.ask.proofs.stand.write_nodes.Goals as goal

pub loop-i-init : goal.loop-i-init
loop-i-init c = refl

pub loop-i-preserved : goal.loop-i-preserved
loop-i-preserved c = let L = c.loop-i in
    let s = c.args.sheet.now.words.now in
    let rows = c.args.rows.now in
    let ws = spelled_rows s rows in
    let long = spelled-long s rows in
    let r = node_at s (get_or rows L.i 0) in
    let again : 2 * L.i + 2 ≡ 2 * (L.i + 1) = omega arith in
    two-stores L.out (2 * L.i) c.node-r.result.number c.node-r.result.variant
    ∙ ap (λ (x : Node). sets L.out (2 * L.i) (x.number ∷ x.variant ∷ [])) c.node-r.ensures
    ∙ front-run L.out c.args.out.now ws (2 * L.i) L.invariant (r.number ∷ r.variant ∷ []) (omega arith) (omega arith) (nodes-next s rows L.i (omega arith))
    ∙ ap (front_of c.args.out.now ws) again

pub returns : goal.returns
returns c = let L = c.loop-i in
    let ws = spelled_rows c.args.sheet.now.words.now c.args.rows.now in
    let long : length ws ≡ 2 * length c.args.rows.now = spelled-long c.args.sheet.now.words.now c.args.rows.now in
    front-done L.out c.args.out.now ws (2 * L.i) L.invariant (omega arith) (omega arith) ∙ ap (λ (m : ℕ). ws ++ drop m c.args.out.now) long
