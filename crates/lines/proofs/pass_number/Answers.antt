-- `lines::pass_number` meets its contract: no digit makes the line unlike the pattern; else the digits are one number more, and the rest goes on behind them.
use Rattle.lines.proofs.Fitting.{passes_none, passes-number}
use Rattle.lines.proofs.pass_number.Goals as goal

pub returns-then-d-i : goal.returns-then-d-i
returns-then-d-i c = passes_none _ _ _ c.args.so c.requires.0 c.requires.1 _ c.digits_at-d.ensures c.if-d-i.true

pub returns : goal.returns
returns c = passes-number _ _ _ _ c.requires.0 c.requires.1 _ c.digits_at-d.ensures c.requires.2 c.if-d-i.false _ c.of_variant.ensures _ c.good_number-number.ensures _ c.and_number.ensures
