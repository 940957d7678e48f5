-- `join::too_much` meets its contract: each return is a line of the table.
use mathlib.Core.Path.{sym}
use native.Mathlib.Omega.{arith}
use Rattle.join.proofs.Refusing.{in-29, in-30, in-25, in-none}
use Rattle.join.proofs.too_much.Goals as goal

pub returns-then-m-gt-ROWS-clause-err : goal.returns-then-m-gt-ROWS-clause-err
returns-then-m-gt-ROWS-clause-err c = in-29 _ _ _ _ c.if-m-gt-ROWS.true

pub returns-then-most-m-clause-err : goal.returns-then-most-m-clause-err
returns-then-most-m-clause-err c = in-30 _ _ _ _ c.if-m-gt-ROWS.false (omega (arith, c.max_edges-most.ensures, c.if-most-m.true))

pub returns-then-room-size-clause-err : goal.returns-then-room-size-clause-err
returns-then-room-size-clause-err c = in-25 _ _ _ _ c.if-m-gt-ROWS.false (omega (arith, c.max_edges-most.ensures, c.if-most-m.false)) (omega (arith, c.sheet_words-size.ensures, c.if-room-size.true))

pub returns-clause-ok : goal.returns-clause-ok
returns-clause-ok c = sym (in-none _ _ _ _ c.if-m-gt-ROWS.false (omega (arith, c.max_edges-most.ensures, c.if-most-m.false)) (omega (arith, c.sheet_words-size.ensures, c.if-room-size.false)))
