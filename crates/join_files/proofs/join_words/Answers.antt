-- `join_files::join_words` meets its contract: it joins into words that have room for any sheet, and then writes their bytes or 25.
use mathlib.Core.Path.{refl, sym}
use lib.Seq.{length-take-le}
use Rattle.join_files.proofs.Joining.{words-refused, part-fits, bytes-written, bytes-short}
use Rattle.join_files.proofs.join_words.Goals as goal

pub returns-then-j-ne0 : goal.returns-then-j-ne0
returns-then-j-ne0 c = let S = c in
    words-refused S.args.first.now S.args.second.now _ _ _ refl c.join-j.ensures S.args.out.now _ c.if-j-ne0.true

pub slice_bounds-encode-end : goal.slice_bounds-encode-end
slice_bounds-encode-end c = let S = c in
    sym (length-take-le c.join-j.result.words c.join-j.new.out (part-fits S.args.first.now S.args.second.now _ _ _ refl c.join-j.ensures c.if-j-ne0.false))

pub returns-then-r-ne0 : goal.returns-then-r-ne0
returns-then-r-ne0 c = let S = c in
    bytes-short S.args.first.now S.args.second.now _ _ _ refl c.join-j.ensures c.if-j-ne0.false S.args.out.now _ _ c.encode-r.ensures _ c.refused_join.ensures c.if-r-ne0.true

pub returns : goal.returns
returns c = let S = c in
    bytes-written S.args.first.now S.args.second.now _ _ _ refl c.join-j.ensures c.if-j-ne0.false S.args.out.now _ _ c.encode-r.ensures c.if-r-ne0.false
