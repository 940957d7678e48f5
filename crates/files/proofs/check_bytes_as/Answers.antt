-- `files::check_bytes_as` meets its contract: past 33 the file's words fit.
use mathlib.Core.Path.{refl, sym, ◌∙◌}
use native.Mathlib.Omega.{arith}
use Rattle.files.proofs.Words.{bytes_good}
use Rattle.files.specs.Bytes.{bytes_verdict}
use Rattle.sheet.proofs.Refusing.{refuse-some-is, refuse-none-is}
use Rattle.files.proofs.check_bytes_as.Goals as goal

pub check_words-requires : goal.check_words-requires
check_words-requires c = bytes_good _ (sym c.in-Ok.ensures)

pub returns-in-Ok : goal.returns-in-Ok
unfolding bytes_verdict
returns-in-Ok c = refuse-none-is 0 _ _ _ _ _ c.in-Ok.ensures refl c.check_words.ensures

pub returns-in-Err : goal.returns-in-Err
unfolding bytes_verdict
returns-in-Err c = c.at.ensures ∙ refuse-some-is _ _ _ _ _ c.in-Err.ensures (λ e. grind arith)
