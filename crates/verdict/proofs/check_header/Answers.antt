-- `check_header` meets its contract: each early return is a line of `header_fault`.
use Rattle.std.proofs.Common.{arith}
use Rattle.std.proofs.lemmas.Grind.{common_steps}
use Rattle.sheet.specs.Refusals.{◌when◌otherwise◌}
use Rattle.sheet.specs.Verdict.{header_fault}
use Rattle.verdict.proofs.check_header.Goals as goal

-- past 4, the rows are within the limits
pub sheet_words-size-requires : goal.sheet_words-size-requires
sheet_words-size-requires c = (omega arith, omega (arith, c.max_edges-most.ensures))

pub returns-then-h-ne1 : goal.returns-then-h-ne1
unfolding header_fault ◌when◌otherwise◌
returns-then-h-ne1 c = grind (arith, common_steps)

pub returns-then-not-contains : goal.returns-then-not-contains
unfolding header_fault ◌when◌otherwise◌
returns-then-not-contains c = grind (arith, common_steps)

pub returns-then-h-gt-MAX_NODES : goal.returns-then-h-gt-MAX_NODES
unfolding header_fault ◌when◌otherwise◌
returns-then-h-gt-MAX_NODES c = grind (arith, common_steps)

pub returns-then-h-ne-HEADER_WORDS : goal.returns-then-h-ne-HEADER_WORDS
unfolding header_fault ◌when◌otherwise◌
returns-then-h-ne-HEADER_WORDS c = grind (arith, common_steps)

pub returns : goal.returns
unfolding header_fault ◌when◌otherwise◌
returns c = grind (arith, common_steps)
