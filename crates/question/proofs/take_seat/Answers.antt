-- `question::take_seat` meets its contract: an office whose number nothing refuses has a seat.
use Rattle.std.proofs.Common.{sym, arith}
use Rattle.question.proofs.Telling.{fits-office}
use Rattle.question.proofs.take_seat.Goals as goal

pub seat_at-requires : goal.seat_at-requires
seat_at-requires c =
    let f = fits-office _ _ (sym c.in_ok-bad_office.ensures) in
    (f.0, omega (arith, f.1, c.args.sheet.now.formed.nodes.header.offices-high))
