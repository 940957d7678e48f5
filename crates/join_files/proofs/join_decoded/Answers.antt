-- `join_files::join_decoded` meets its contract: the parts that are handed on are the files' words.
use native.Mathlib.Omega.{arith}
use Rattle.join_files.proofs.Joining.{decoded-part, words-joined}
use Rattle.join_files.proofs.join_decoded.Goals as goal

pub returns : goal.returns
returns c = let S = c in
    words-joined S.args.first.now S.args.second.now S.args.out.now _ _
    (decoded-part S.args.first.now _ _ _ (omega (arith, S.requires.0)) c.decode.ensures)
    (decoded-part S.args.second.now _ _ _ (omega (arith, S.requires.1)) c.decode-2.ensures)
    _ _ c.join_words.ensures
