-- `fleet_join::tell` is safe: what is written is a part of the text.
use Rattle.join_files.proofs.Reporting.{report-part}
use Rattle.fleet_join.proofs.tell.Goals as goal

-- src/main.rt:85:46
pub slice_bounds-write_all-end : goal.slice_bounds-write_all-end
slice_bounds-write_all-end g c = report-part _ _ _ _ c.report-n.ensures
