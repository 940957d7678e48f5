-- `listing::write_lines` meets its contract: 25, or the lines.
use native.Mathlib.Omega.{arith}
use Rattle.sheet.proofs.Writing.{gives-short, gives-written}
use Rattle.listing.specs.Printed.{printed}
use Rattle.listing.proofs.Giving.{put_front}
use Rattle.listing.proofs.writing.write_lines.Goals as goal

pub returns-then-out-size : goal.returns-then-out-size
returns-then-out-size c = gives-short (printed c.args.sheet.now.words.now) c.args.out.now (omega (arith, c.put_sheet-size.ensures.ends, c.if-out-size.true))

pub returns : goal.returns
returns c =
    let size = c.put_sheet-size.ensures.ends in
    let room = c.if-out-size.false in
    gives-written (printed c.args.sheet.now.words.now) c.args.out.now _ _ (omega (arith, size)) room (put_front (printed c.args.sheet.now.words.now) c.args.out.now _ _ (omega (arith, size, room)) c.put_sheet.ensures)
