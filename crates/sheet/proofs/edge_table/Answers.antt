-- `sheet::edge_table` meets its contract: the part from the edge offset on, to the end, lies four bytes a word behind the start.
use Prim.Native.Nat.{ℕ, ◌+◌, ◌*◌}
use native.Mathlib.Omega.{arith}
use mathlib.Core.Path.{◌≡◌, ap, ap₂, ◌∙◌}
use mathlib.Core.List.{List}
use lib.ListN.{drop}
use Rattle.sheet.specs.Rows.{header_of}
use Rattle.sheet.specs.declared.Header.{Header}
use Rattle.sheet.proofs.Refusing.{from_on}
use Rattle.sheet.proofs.edge_table.Goals as goal

pub returns : goal.returns
returns c =
    let S = c in
    let s = S.args.sheet in
    let e : S.args.h.edgeoffset ≡ (header_of s.now).edgeoffset = ap (λ (x : Header). x.edgeoffset) S.requires.0 in
    let place : S.args.h.edgeoffset * 4 + s.ref_ptr.1 ≡ s.ref_ptr.1 + 4 * (header_of s.now).edgeoffset = omega arith in
    let words = from_on s.now S.args.h.edgeoffset ∙ ap (λ (x : ℕ). drop x s.now) e in
    ap₂ (λ (o : ℕ) (ws : List ℕ). record { block = s.ref_ptr.0; offset = o; words = ws }) place words
