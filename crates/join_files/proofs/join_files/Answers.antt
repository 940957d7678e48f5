-- `join_files::join_files` meets its contract: the first file's refusal, the second's, and past both the join of their words.
use Rattle.join_files.proofs.Joining.{first-file-refused, second-refused, files-joined, file-fits}
use Rattle.join_files.proofs.join_files.Goals as goal

pub returns-then-r-ne0 : goal.returns-then-r-ne0
returns-then-r-ne0 c = let S = c in
    first-file-refused S.args.first.now S.args.second.now S.args.out.now _ c.check_bytes_as-r.ensures _ c.refused_join.ensures c.if-r-ne0.true

pub returns-then-s-ne0 : goal.returns-then-s-ne0
returns-then-s-ne0 c = let S = c in
    second-refused S.args.first.now S.args.second.now S.args.out.now _ c.check_bytes_as-r.ensures c.if-r-ne0.false _ c.check_bytes_as-s.ensures _ c.refused_join-then-s-ne0.ensures c.if-s-ne0.true

pub join_decoded-requires : goal.join_decoded-requires
join_decoded-requires c = let S = c in
    (file-fits 1 S.args.first.now _ c.check_bytes_as-r.ensures c.if-r-ne0.false, file-fits 2 S.args.second.now _ c.check_bytes_as-s.ensures c.if-s-ne0.false)

pub returns : goal.returns
returns c = let S = c in
    files-joined S.args.first.now S.args.second.now S.args.out.now _ c.check_bytes_as-r.ensures c.if-r-ne0.false _ c.check_bytes_as-s.ensures _ _ c.if-s-ne0.false c.join_decoded.ensures
