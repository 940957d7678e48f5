-- `listing::put_sheet` meets its contract: node lines, then edge lines behind them.
use Rattle.listing.proofs.Printing.{sheet-put}
use Rattle.listing.proofs.writing.put_sheet.Goals as goal

pub returns : goal.returns
returns c = sheet-put c.args.sheet.now.words.now c.args.sheet.now.header c.args.sheet.now.formed.head c.put_rows-at.ensures.1 c.put_rows.ensures.1 c.put_rows-at.auto.out
