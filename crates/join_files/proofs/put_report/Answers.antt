-- `join_files::put_report` meets its contract: the number decides which is said.
use Rattle.join_files.proofs.Reporting.{says-lines, says-refusal}
use Rattle.join_files.proofs.put_report.Goals as goal

pub returns-then-j-eq0 : goal.returns-then-j-eq0
returns-then-j-eq0 c = let P = c.put_lines.ensures in
    (P.0, says-lines c.args.j _ c.if-j-eq0.true P.1)

pub returns : goal.returns
returns c = let P = c.put_refusal.ensures in
    (P.0, says-refusal c.args.j _ c.if-j-eq0.false P.1)
