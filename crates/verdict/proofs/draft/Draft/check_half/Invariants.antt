-- `Draft::check_half` meets its contract. The loop's invariant: what is left of the run has the refusal of the whole run.
use Rattle.std.proofs.Common.{◌≡◌, ◌-◌}
use Rattle.sheet.specs.Refusals.{first_row}
use Rattle.sheet.specs.Rows.{count_in}
use Rattle.verdict.specs.Each.{fault_at}
use Rattle.verdict.proofs.draft.Draft.check_half.Given as goal

abbrev pub invariant-loop-i : goal.invariant-loop-i
invariant-loop-i l =
    let f = fault_at l.self.words.now l.self.edges.now l.self.header l.half in
    first_row l.place f 0 (count_in l.half l.self.header) ≡ first_row l.place f l.i (count_in l.half l.self.header - l.i)
