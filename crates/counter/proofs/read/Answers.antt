-- `counter::read` meets its contract: where there is room for any sheet, 33 alone refuses.
use native.Mathlib.Omega.{arith}
use Rattle.files.proofs.Words.{bytes_good}
use Rattle.counter.proofs.Reading.{was_read}
use Rattle.counter.proofs.read.Goals as goal

pub returns-then-refusal-ne0-clause-err : goal.returns-then-refusal-ne0-clause-err
returns-then-refusal-ne0-clause-err c = ((was_read c.args.file.now c.args.words.now _ _ c.told-words c.tormukai_words_of_file-refusal.ensures).refusal, c.if-refusal-ne0.true)

pub shared_ref_as_front-result : goal.shared_ref_as_front-result
shared_ref_as_front-result c =
    let x = was_read c.args.file.now c.args.words.now _ _ c.told-words c.tormukai_words_of_file-refusal.ensures in
    let most = bytes_good _ (x.good c.if-refusal-ne0.false) in
    omega arith

pub returns-clause-ok : goal.returns-clause-ok
returns-clause-ok c =
    let x = was_read c.args.file.now c.args.words.now _ _ c.told-words c.tormukai_words_of_file-refusal.ensures in
    (x.stand c.if-refusal-ne0.false, x.good c.if-refusal-ne0.false)
