-- `lines::put_mark` meets its contract: a character that stands for itself, a mark behind the last number, a number in decimal.
use mathlib.Core.Path.{sym, ◌∙◌}
use native.Mathlib.Omega.{arith}
use Rattle.lines.specs.Nine.{numbers_of}
use Rattle.lines.proofs.Spelled.{put-plain, put-nothing, put-decimal}
use Rattle.lines.proofs.put_mark.Goals as goal

pub returns-then-not-of_number : goal.returns-then-not-of_number
returns-then-not-of_number c = let S = c in
    (omega arith, put-plain S.args.p S.args.k S.args.at (numbers_of S.args.l) S.args.out.now (sym c.of_number.ensures ∙ c.if-not-of_number.true))

pub returns-then-k-gt2 : goal.returns-then-k-gt2
returns-then-k-gt2 c = let S = c in
    (omega arith, put-nothing S.args.p S.args.k S.args.at (numbers_of S.args.l) S.args.out.now (sym c.of_number.ensures ∙ c.if-not-of_number.false) c.if-k-gt2.true)

pub returns : goal.returns
returns c = let S = c in
    let E = c.put_number.ensures in
    (omega (arith, E.0), put-decimal S.args.p S.args.k S.args.at (numbers_of S.args.l) S.args.out.now (sym c.of_number.ensures ∙ c.if-not-of_number.false) (omega (arith, c.if-k-gt2.false)) _ _ _ c.read_number.ensures E.1)
