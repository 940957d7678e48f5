-- `counter::tormukai_words_of_file` meets its contract: 33 before a word is written, and 25 after it.
use native.Mathlib.Omega.{arith}
use mathlib.Core.Path.{refl}
use Rattle.counter.proofs.Reading.{not-lent, words-lent}
use Rattle.counter.proofs.tormukai_words_of_file.Goals as goal

pub returns-in-Ok : goal.returns-in-Ok
returns-in-Ok c = words-lent _ 0 c.in-Ok.ensures _ _ _ refl c.decode.ensures

pub returns-in-Err : goal.returns-in-Err
returns-in-Err c = rw c.at.ensures (not-lent _ _ c.in-Err.ensures _ _ (λ e. grind arith) refl)
