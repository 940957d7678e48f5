-- `files::check_words` meets its contract: the part of the words that is handed on is the file's words, and what lies behind them is not looked at.
use mathlib.Core.Path.{ap, ◌∙◌}
use Rattle.files.proofs.Words.{decoded}
use Rattle.sheet.specs.Verdict.{verdict}
use Rattle.files.proofs.check_words.Goals as goal

pub returns : goal.returns
returns c = let S = c in
    c.check_as.ensures ∙ ap (verdict S.args.place) (decoded _ S.args.bytes.now _ c.decode_all.ensures)
