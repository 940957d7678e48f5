-- `sheet::edge_place` meets its contract: so many rows, each as wide as the form has them.
use borrow.Author.Rules.{rules}
use Rattle.sheet.specs.Limits.{edge_place, edge_words}
use Rattle.sheet.proofs.edge_place.Goals as goal

pub overflow_mul-result : goal.overflow_mul-result
unfolding edge_place edge_words
overflow_mul-result c = search rules

pub returns : goal.returns
unfolding edge_place edge_words
returns c = search rules
