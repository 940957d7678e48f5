-- `Merge::next` meets its contract: a sheet has few rows.
use mathlib.Core.Path.{subst}
use native.Mathlib.Omega.{arith}
use Rattle.combine.proofs.Reading.{AreFew, rows-few}
use Rattle.combine.proofs.MergeIterator.next.Goals as goal

pub overflow_add-self : goal.overflow_add-self
overflow_add-self c = let few = subst AreFew c.in-First.is (rows-few c.args.self.now.halves.now _ c.in_ok-step.ensures.rows) in omega (arith, few)

pub overflow_add-self-in-Second : goal.overflow_add-self-in-Second
overflow_add-self-in-Second c = let few = subst AreFew c.in-Second.is (rows-few c.args.self.now.halves.now _ c.in_ok-step.ensures.rows) in omega (arith, few)

pub overflow_add-self-in-Both : goal.overflow_add-self-in-Both
overflow_add-self-in-Both c = let few = subst AreFew c.in-Both.is (rows-few c.args.self.now.halves.now _ c.in_ok-step.ensures.rows) in omega (arith, few)

pub overflow_add-self-in-Both-2 : goal.overflow_add-self-in-Both-2
overflow_add-self-in-Both-2 c = let few = subst AreFew c.in-Both.is (rows-few c.args.self.now.halves.now _ c.in_ok-step.ensures.rows) in omega (arith, few)
