-- `trial::step_words` counts no more rows and answers than words.
use Rattle.std.proofs.Common.{◌+◌, ◌≡◌, ◌≤◌, length}
use Rattle.trial.proofs.step_words.Given as goal

abbrev pub invariant-loop-row : goal.invariant-loop-row
invariant-loop-row l = record {
  fives : l.row-iterator.size ≡ 5;
  left : l.taken + length l.row-iterator.rest.now ≤ length l.rows;
  few : l.count ≤ l.taken;
}
