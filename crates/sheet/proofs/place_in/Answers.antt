-- `sheet::place_in` meets its contract, half by half.
use Prim.Native.Nat.{ℕ}
use mathlib.Core.Path.{◌≡◌, sym, ap, ◌∙◌}
use native.Mathlib.Omega.{arith}
use Rattle.sheet.specs.declared.Half.{Half}
use Rattle.sheet.specs.Rows.{row_place}
use Rattle.sheet.proofs.place_in.Goals as goal

-- the place in the half that is told
of-told : (half told : Half) (form j : ℕ) → half ≡ told → row_place half form j ≡ row_place told form j
of-told half told form j e = ap (λ (x : Half). row_place x form j) e

pub overflow_mul-result : goal.overflow_mul-result
overflow_mul-result c = omega (arith, of-told _ _ c.args.form c.args.j c.in-Nodes.is, c.requires)

pub edge_place-requires : goal.edge_place-requires
edge_place-requires c = omega (arith, of-told _ _ c.args.form c.args.j c.in-Edges.is, c.requires)

pub returns-in-Nodes : goal.returns-in-Nodes
returns-in-Nodes c = sym (of-told _ _ _ _ c.in-Nodes.is)

pub returns-in-Edges : goal.returns-in-Edges
returns-in-Edges c = c.edge_place.ensures ∙ sym (of-told _ _ _ _ c.in-Edges.is)
