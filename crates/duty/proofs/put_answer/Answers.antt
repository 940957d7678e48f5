-- `duty::put_answer` meets its contract: a row that asks puts one word, and any other none.
use Rattle.sheet.specs.Named.{seen_at}
use Rattle.std.specs.Prelude.{Ok}
use Rattle.watch.specs.WatchTable.{told_row}
use Rattle.duty.proofs.Answers.{row-puts-none, row-puts-one, asks-room}
use Rattle.duty.proofs.put_answer.Goals as goal

pub returns-then-offices-eq0 : goal.returns-then-offices-eq0
returns-then-offices-eq0 c = row-puts-none _ _ _ _ _ c.if-offices-eq0.true

pub bounds-out-at : goal.bounds-out-at
bounds-out-at c = asks-room (seen_at c.args.sheet.now.words.now) c.args.row (told_row (Ok c.args.offices)) c.args.out.now c.args.at c.if-offices-eq0.false c.requires.1

pub returns : goal.returns
returns c = row-puts-one _ _ _ _ _ c.if-offices-eq0.false _ c.row_answer.ensures
