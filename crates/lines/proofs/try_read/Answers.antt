-- `lines::try_read` meets its contract, by the line's first letter: the other eight patterns begin with another, so the one that is tried is the first that fits.
use mathlib.Core.Path.{sym, ◌∙◌}
use native.Mathlib.Omega.{arith}
use Rattle.std.proofs.lemmas.Bool.{eqb-true}
use Rattle.lines.proofs.Fitting.{empty-said, read_by, read-by-none, nine-others}
use Rattle.lines.proofs.try_read.Goals as goal

pub returns-then-is_empty : goal.returns-then-is_empty
returns-then-is_empty c = empty-said _ (eqb-true _ _ (sym c.is_empty.ensures ∙ c.if-is_empty.true))

pub returns-in-112 : goal.returns-in-112
returns-in-112 c = read_by _ 0 (omega arith) (sym c.is_empty.ensures ∙ c.if-is_empty.false) c.in-112.is _ c.by_pattern.ensures

pub returns-in-99 : goal.returns-in-99
returns-in-99 c = read_by _ 1 (omega arith) (sym c.is_empty.ensures ∙ c.if-is_empty.false) c.in-99.is _ c.by_pattern-in-99.ensures

pub returns-in-100 : goal.returns-in-100
returns-in-100 c = read_by _ 2 (omega arith) (sym c.is_empty.ensures ∙ c.if-is_empty.false) c.in-100.is _ c.by_pattern-in-100.ensures

pub returns-in-102 : goal.returns-in-102
returns-in-102 c = read_by _ 3 (omega arith) (sym c.is_empty.ensures ∙ c.if-is_empty.false) c.in-102.is _ c.by_pattern-in-102.ensures

pub returns-in-105 : goal.returns-in-105
returns-in-105 c = read_by _ 4 (omega arith) (sym c.is_empty.ensures ∙ c.if-is_empty.false) c.in-105.is _ c.by_pattern-in-105.ensures

pub returns-in-119 : goal.returns-in-119
returns-in-119 c = read_by _ 5 (omega arith) (sym c.is_empty.ensures ∙ c.if-is_empty.false) c.in-119.is _ c.by_pattern-in-119.ensures

pub returns-in-103 : goal.returns-in-103
returns-in-103 c = read_by _ 6 (omega arith) (sym c.is_empty.ensures ∙ c.if-is_empty.false) c.in-103.is _ c.by_pattern-in-103.ensures

pub returns-in-98 : goal.returns-in-98
returns-in-98 c = read_by _ 7 (omega arith) (sym c.is_empty.ensures ∙ c.if-is_empty.false) c.in-98.is _ c.by_pattern-in-98.ensures

pub returns-in-97 : goal.returns-in-97
returns-in-97 c = read_by _ 8 (omega arith) (sym c.is_empty.ensures ∙ c.if-is_empty.false) c.in-97.is _ c.by_pattern-in-97.ensures

pub returns-in_default : goal.returns-in_default
returns-in_default c = read-by-none _ (sym c.is_empty.ensures ∙ c.if-is_empty.false) (nine-others _ (omega arith) (omega arith) (omega arith) (omega arith) (omega arith) (omega arith) (omega arith) (omega arith) (omega arith))
