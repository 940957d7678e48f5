-- `join::made_join` meets its contract: a sheet within the limits has fewer words than a word of 32 bits counts.
use native.Mathlib.Omega.{arith}
use Rattle.sheet.proofs.Widths.{few, edges_few}
use Rattle.join.proofs.made_join.Goals as goal

pub overflow_cast-edges : goal.overflow_cast-edges
overflow_cast-edges c = omega (arith, (few _ _ c.requires.edges.0).0)

pub overflow_cast-result : goal.overflow_cast-result
overflow_cast-result c = omega (arith, c.sheet_words.ensures, (few _ _ c.requires.edges.0).1, c.requires.nodes.0)

pub overflow_add-result-2 : goal.overflow_add-result-2
overflow_add-result-2 c = omega (arith, edges_few _ _ c.args.first.now.formed.nodes.header, edges_few _ _ c.args.second.now.formed.nodes.header)
