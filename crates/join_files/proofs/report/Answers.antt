-- `join_files::report` meets its contract: the report is put into a line that has room for any, and copied where the text has room too.
use native.Mathlib.Omega.{arith}
use Rattle.join_files.proofs.Reporting.{report-short, report-whole}
use Rattle.join_files.proofs.report.Goals as goal

pub returns-then-text-n : goal.returns-then-text-n
returns-then-text-n c = let P = c.put_report-n.ensures in
    report-short _ c.args.text.now _ _ (omega arith) P.1 c.if-text-n.true

pub returns : goal.returns
returns c = let P = c.put_report-n.ensures in
    report-whole _ c.args.text.now _ _ (omega arith) P.1 _ c.if-text-n.false c.copy_from_slice.ensures.after
