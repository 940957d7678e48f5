-- `lines::pass_one` meets its contract: a line that has ended is unlike what is left of the pattern; else a number or a byte is passed.
use Rattle.lines.proofs.Fitting.{passes-out}
use Rattle.lines.proofs.pass_one.Goals as goal

pub returns-then-line-i : goal.returns-then-line-i
returns-then-line-i c = passes-out _ _ _ c.args.so c.if-line-i.true
