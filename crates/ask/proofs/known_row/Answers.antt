-- `ask::known_row` meets its contract: a search tells the row, or that the identity is not known.
use mathlib.Core.Path.{refl}
use Rattle.ask.proofs.Placing.{row-known, row-missing}
use Rattle.ask.proofs.known_row.Goals as goal

pub returns-in-Ok-clause-ok : goal.returns-in-Ok-clause-ok
returns-in-Ok-clause-ok c = row-known _ _ _ c.args.at.now.sheet.formed _ _ _ _ _ c.in-Ok.ensures

pub returns-in-Err-clause-err : goal.returns-in-Err-clause-err
returns-in-Err-clause-err c = (refl, row-missing _ _ _ c.args.at.now.sheet.formed _ _ _ _ _ c.in-Err.ensures)
