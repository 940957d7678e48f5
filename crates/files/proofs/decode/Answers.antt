-- `files::decode` meets its contract: it writes all or nothing.
use mathlib.Core.Path.{◌≡◌}
use borrow.Author.Rules.{rules}
use Rattle.sheet.specs.Refusals.{none}
use native.Mathlib.Omega.{arith}
use Rattle.files.proofs.Words.{words_long}
use Rattle.files.specs.Bytes.{words_of}
use Rattle.sheet.proofs.Writing.{writes-all, writes_short}
use Rattle.files.proofs.decode.Goals as goal

pub returns-then-words-bytes : goal.returns-then-words-bytes
returns-then-words-bytes c = let S = c in
    let n = words_long S.args.bytes.now in
    rw c.into.ensures (writes_short (words_of S.args.bytes.now) S.args.words.now (omega arith))

pub returns : goal.returns
returns c = let S = c in
    let n = words_long S.args.bytes.now in
    let e : c.default.result ≡ none = search rules in rw e (writes-all (words_of c.args.bytes.now) c.args.words.now _ (omega (arith, c.if-words-bytes.false)) c.decode_all.ensures)
