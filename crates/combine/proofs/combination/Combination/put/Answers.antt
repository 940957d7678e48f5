-- `Combination::put` meets its contract: 25, or the combination and its count of words.
use native.Mathlib.Omega.{arith}
use Rattle.sheet.proofs.Widths.{few}
use Rattle.combine.proofs.Whole.{put-short, put-written}
use Rattle.combine.proofs.combination.Combination.put.Goals as goal

pub sheet_words-words-requires : goal.sheet_words-words-requires
sheet_words-words-requires c = let M = c.measure-m.ensures in (omega (arith, M.node-rows.count), omega (arith, M.edge-rows))

pub returns-then-out-words : goal.returns-then-out-words
returns-then-out-words c = let M = c.measure-m.ensures in
    put-short c.args.self.now _ _ _ _ M (omega (arith, M.node-rows.count)) (omega (arith, M.edge-rows)) (omega (arith, c.sheet_words-words.ensures))

pub lay-requires : goal.lay-requires
lay-requires c = let M = c.measure-m.ensures in (M, omega (arith, M.node-rows.count), omega (arith, M.edge-rows), omega (arith, c.sheet_words-words.ensures, c.if-out-words.false))

pub overflow_cast-result : goal.overflow_cast-result
overflow_cast-result c = let M = c.measure-m.ensures in omega (arith, c.sheet_words-words.ensures, M.node-rows.count, M.edge-rows, (few c.args.self.now.first.now.header.form c.measure-m.result.edges (omega (arith, M.edge-rows))).1)

pub returns : goal.returns
returns c = put-written c.args.self.now _ _ _ _ c.sheet_words-words.ensures c.if-out-words.false c.lay.ensures
