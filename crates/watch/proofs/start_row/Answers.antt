-- `watch::start_row` meets its contract: the first place that is free takes the folio; where none is, the row is refused.
use mathlib.Core.Path.{refl, sym, ◌∙◌}
use borrow.Author.Tests.{lt-ltb}
use Rattle.watch.specs.WatchTable.{started_row}
use Rattle.watch.proofs.Loops.{free-some, free-none}
use Rattle.watch.proofs.start_row.Goals as goal

pub returns-in_default : goal.returns-in_default
unfolding started_row
returns-in_default c = λ w. rw (sym c.is_named.ensures ∙ c.if-not-is_named.true, free-none _ c.told-places (sym c.in_default.is ∙ c.first_free.ensures)) refl

pub returns-in-Some : goal.returns-in-Some
unfolding started_row
returns-in-Some c = λ w. let p = free-some c.args.places.now c.in-Some.at c.told-places (sym c.in-Some.is ∙ c.first_free.ensures) in rw (sym c.is_named.ensures ∙ c.if-not-is_named.true, p.1, lt-ltb c.in-Some.at 32 p.0) refl

pub returns-else-not-is_named : goal.returns-else-not-is_named
unfolding started_row
returns-else-not-is_named c = λ w. rw (sym c.is_named.ensures ∙ c.if-not-is_named.false) refl
