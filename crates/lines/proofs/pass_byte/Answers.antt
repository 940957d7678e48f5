-- `lines::pass_byte` meets its contract: the byte is the pattern's, and the rest of both goes on, or the line is unlike it.
use Rattle.lines.proofs.Fitting.{passes-byte, passes-other}
use Rattle.lines.proofs.pass_byte.Goals as goal

pub returns-then-line-i : goal.returns-then-line-i
returns-then-line-i c = passes-byte _ _ _ _ c.requires.0 c.requires.1 c.if-line-i.true

pub returns : goal.returns
returns c = passes-other _ _ _ c.args.so c.requires.0 c.requires.1 c.if-line-i.false
