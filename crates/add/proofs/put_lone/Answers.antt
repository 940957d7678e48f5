-- `add::put_lone` meets its contract: combined with the row alone, it is the sheet with the row more.
use Prim.Native.Nat.{ℕ}
use mathlib.Core.Path.{sym, subst}
use mathlib.Core.List.{List}
use native.Mathlib.Omega.{arith}
use Rattle.sheet.specs.Accepted.{WellFormed}
use Rattle.sheet.proofs.Forming.{words_of, nodes-of, formed-of, same-words}
use Rattle.combine.proofs.Reading.{sheet-formed}
use Rattle.combine.proofs.Whole.{put-out-as}
use Rattle.add.proofs.Adding.{added-pair, added-kept, combined-added}
use Rattle.add.proofs.Showing.{fault-good}
use Rattle.add.proofs.put_lone.Goals as goal

pub header_of-header-requires : goal.header_of-header-requires
header_of-header-requires c = let w = c.requires.0.accepted.nodes.header.whole in omega arith

pub edge_table-requires : goal.edge_table-requires
edge_table-requires c = let e = c.header_of-header.ensures in (e, (nodes-of _ c.requires.0.accepted _ e).header)

pub invariant_of-one : goal.invariant_of-one
invariant_of-one c =
    record { formed = subst (λ (t : List ℕ). WellFormed c.args.lone.now t c.header_of-header.result) (sym (same-words _ _ c.edge_table.ensures)) (formed-of _ c.requires.0.accepted _ c.header_of-header.ensures) }

pub invariant_of-pair : goal.invariant_of-pair
invariant_of-pair c =
    let s = c.args.sheet.now in
    record { sound = added-pair c.args.half _ (words_of _ _ _ s.formed) _ (fault-good _ _ _ c.requires.1) _ c.requires.0 _ _ (sheet-formed s) c.header_of-header.ensures }

pub put-requires : goal.put-requires
put-requires c =
    let s = c.args.sheet.now in
    added-kept c.args.half _ (words_of _ _ _ s.formed) _ (fault-good _ _ _ c.requires.1) _ c.requires.0 _ _ s.formed.head c.header_of-header.ensures

pub returns : goal.returns
returns c =
    let s = c.args.sheet.now in
    put-out-as _ c.put.result c.put.new.out (combined-added c.args.half _ (words_of _ _ _ s.formed) _ (fault-good _ _ _ c.requires.1) _ c.requires.0 _ s.formed.head) c.put.ensures
