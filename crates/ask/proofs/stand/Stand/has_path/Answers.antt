-- `ask::stand::Stand::has_path` meets its contract: the number of steps from the person's row to the folio's is 0 exactly where no path leads there.
use mathlib.Core.Path.{refl}
use Rattle.question.specs.Sides.{side}
use Rattle.ask.proofs.Deciding.{walked-back, reach-says}
use Rattle.ask.proofs.stand.Stand.has_path.Goals as goal

pub returns : goal.returns
returns c = let o = c.args.self.now in
    reach-says _ _ _ o.at.sheet.formed o.at.seat (side c.args.asks) o.question o.places.person o.places.folio o.placed c.measure.new.d (walked-back c.walker.result _ _ c.walker.ensures _ _ c.measure.ensures.1) _ refl
