-- `fleet_join::join_and_tell` is safe: what is stored is a part of the output.
use Rattle.join_files.proofs.Joining.{joint-part}
use Rattle.fleet_join.proofs.join_and_tell.Goals as goal

-- src/main.rt:96:29
pub slice_bounds-store_joint-end : goal.slice_bounds-store_joint-end
slice_bounds-store_joint-end g c = joint-part _ _ _ _ c.join_files-j.ensures c.if-j-eq0.true
