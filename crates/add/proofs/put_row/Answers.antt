-- `add::put_row` meets its contract: the row as a sheet of its own, half by half.
use Rattle.combine.proofs.Reading.{sheet-formed}
use Rattle.add.proofs.Fitting.{node-lone, told-ends, told-edge}
use Rattle.add.proofs.put_row.Goals as goal

pub put_lone-requires : goal.put_lone-requires
put_lone-requires c = (node-lone _ _ _ _ _ c.in-Nodes.is (sheet-formed c.args.sheet.now) c.requires c.lone_node.ensures, c.requires)

pub lone_with_ends-requires : goal.lone_with_ends-requires
lone_with_ends-requires c = told-ends _ _ _ _ c.in-Edges.is (sheet-formed c.args.sheet.now) c.requires

pub put_lone-requires-in-Edges : goal.put_lone-requires-in-Edges
put_lone-requires-in-Edges c = (told-edge _ _ _ _ _ c.in-Edges.is (sheet-formed c.args.sheet.now) c.requires c.lone_with_ends.ensures, c.requires)
