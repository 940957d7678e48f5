-- `lines::put_line` meets its contract: each arm spells the pattern of its form.
use native.Mathlib.Omega.{arith}
use Rattle.lines.proofs.Spelled.{line-put}
use Rattle.lines.proofs.put_line.Goals as goal

pub returns-in-1 : goal.returns-in-1
returns-in-1 c = line-put c.args.l 1 c.in-1.is c.put_pattern.ensures

pub returns-in-2 : goal.returns-in-2
returns-in-2 c = line-put c.args.l 2 c.in-2.is c.put_pattern-in-2.ensures

pub returns-in-3 : goal.returns-in-3
returns-in-3 c = line-put c.args.l 3 c.in-3.is c.put_pattern-in-3.ensures

pub returns-in-4 : goal.returns-in-4
returns-in-4 c = line-put c.args.l 4 c.in-4.is c.put_pattern-in-4.ensures

pub returns-in-5 : goal.returns-in-5
returns-in-5 c = line-put c.args.l 5 c.in-5.is c.put_pattern-in-5.ensures

pub returns-in-6 : goal.returns-in-6
returns-in-6 c = line-put c.args.l 6 c.in-6.is c.put_pattern-in-6.ensures

pub returns-in-7 : goal.returns-in-7
returns-in-7 c = line-put c.args.l 7 c.in-7.is c.put_pattern-in-7.ensures

pub returns-in-8 : goal.returns-in-8
returns-in-8 c = line-put c.args.l 8 c.in-8.is c.put_pattern-in-8.ensures

pub returns-in_default : goal.returns-in_default
returns-in_default c = line-put c.args.l 9 (omega (arith, c.requires.0, c.requires.1)) c.put_pattern-in_default.ensures
