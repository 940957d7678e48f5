-- `lines::put_pattern` meets its contract. The loop's invariant: the characters passed were put, a mark with the next number.
use Prim.Native.Nat.{◌*◌, ◌≤◌}
use Rattle.lines.specs.Nine.{numbers_of}
use Rattle.lines.proofs.Spelled.{Spelling}
use Rattle.lines.proofs.put_pattern.Given as goal

abbrev pub invariant-loop-p : goal.invariant-loop-p
invariant-loop-p l = (l.k ≤ l.p-index) × (l.at ≤ 10 * l.p-index) × Spelling l.pattern (numbers_of l.l) l.initial.out l.p-index l.k l.at l.out
