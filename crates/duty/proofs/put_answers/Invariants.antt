-- `duty::put_answers` meets its contract. The loop's invariant: the table stands for the rows before those that are left, and the answers to their questions are in front of the output (`Putting`).
use Prim.Native.Nat.{◌*◌}
use mathlib.Core.Path.{◌≡◌}
use lib.ListN.{length, drop}
use Rattle.sheet.specs.Named.{seen_at}
use Rattle.duty.proofs.Answers.{Putting}
use Rattle.duty.proofs.put_answers.Given as goal

abbrev pub invariant-loop-words : goal.invariant-loop-words
invariant-loop-words l = record {
  fives : l.words-iterator.size ≡ 5;
  left : drop (5 * length l.yielded) l.rows ≡ l.words-iterator.rest.now;
  putting : Putting (seen_at l.sheet.words.now) l.timeout l.rows l.initial.out l.watch (5 * length l.yielded) l.count l.out;
}
