-- `listing::take_line` meets its contract: the line ends at the first line feed, or it lacks one and is the last.
use Prim.Native.Nat.{ℕ, ◌+◌}
use mathlib.Core.Path.{refl, ap}
use native.Mathlib.Omega.{arith}
use lib.ListN.{drop, length-drop}
use Rattle.std.proofs.lemmas.List.{take_rest}
use Rattle.listing.specs.LineByLine.{index_of}
use Rattle.listing.proofs.Cutting.{feed-found, feed-missing, takes-line, takes-last}
use Rattle.listing.proofs.take_line.Goals as goal

pub returns-in-Some : goal.returns-in-Some
returns-in-Some c =
    let e = feed-found (drop c.args.at c.args.text.now) _ (rw take_rest at c.in-Some.ensures) in
    takes-line _ _ c.requires _ (ap (λ (n : ℕ). c.args.at + n) e.0) (omega (arith, e.1, length-drop c.args.at c.args.text.now)) _ c.try_read.ensures

pub returns-in-None : goal.returns-in-None
returns-in-None c =
    let e = feed-missing (drop c.args.at c.args.text.now) (rw take_rest at c.in-None.ensures) in
    takes-last _ _ c.requires (c.args.at + index_of 10 (drop c.args.at c.args.text.now)) refl (omega (arith, e, length-drop c.args.at c.args.text.now))
