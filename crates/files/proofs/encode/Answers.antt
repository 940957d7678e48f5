-- `files::encode` meets its contract: it writes all or nothing.
use mathlib.Core.Path.{◌≡◌}
use borrow.Author.Rules.{rules}
use Rattle.sheet.specs.Refusals.{none}
use native.Mathlib.Omega.{arith}
use Rattle.files.proofs.Words.{bytes-long}
use Rattle.files.specs.Bytes.{bytes_of}
use Rattle.sheet.proofs.Writing.{writes-all, writes_short}
use Rattle.files.proofs.encode.Goals as goal

pub returns-then-bytes-words : goal.returns-then-bytes-words
returns-then-bytes-words c = let S = c in
    let n = bytes-long S.args.words.now in
    rw c.into.ensures (writes_short (bytes_of S.args.words.now) S.args.bytes.now (omega arith))

pub returns : goal.returns
returns c = let S = c in
    let n = bytes-long S.args.words.now in
    let e : c.default.result ≡ none = search rules in rw e (writes-all (bytes_of c.args.words.now) c.args.bytes.now _ (omega (arith, c.if-bytes-words.false)) c.encode_all.ensures)
