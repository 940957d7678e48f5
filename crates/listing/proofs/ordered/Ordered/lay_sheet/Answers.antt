-- `listing::Ordered::lay_sheet` meets its contract: header, node rows and edge rows are written through two lent tails, one behind the other.
use mathlib.Core.Path.{refl}
use Rattle.listing.proofs.Laying.{sheet-laid}
use Rattle.listing.proofs.ordered.Ordered.lay_sheet.Goals as goal

pub returns : goal.returns
returns c = sheet-laid _ _ _ _ _ _ c.requires.3 c.put_header.ensures _ c.lay_rows.ensures _ refl _ c.lay_rows-2.ensures
