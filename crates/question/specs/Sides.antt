-- What is asked for, by its side.
-- Assumes nothing.
use Rattle.meaning.specs.Paths.{Side, grant, ban}
use Rattle.question.specs.declared.asks.Asks.{Asks}
use Rattle.question.specs.declared.asks.Asks.TheVariants.{Grants, Bans}

-- the side whose right is asked for
abbrev pub side : Asks → Side
side Grants = grant
side Bans = ban
