-- Which rows are picked, by the walk that goes over a sheet.
-- Assumes nothing.
use Rattle.std.specs.Prelude.{ℕ, List}
use Rattle.walk.specs.declared.Walk.{Walk}
use Rattle.walk.specs.declared.walker.Walker.{Walker}
use Rattle.question.specs.declared.office.OfficeSheet.{OfficeSheet}
use Rattle.reach.specs.Reaching.{LeadsTo}
use Rattle.lists.specs.Picked.{PersonLeads, PersonsReach, PersonsLead}

abbrev pub LeadsBy : Walker → ℕ → ℕ → Type 0
LeadsBy w from to = LeadsTo w.sheet.words.now w.sheet.edges.now w.sheet.header w.walk from to

abbrev pub PersonsReachBy : Walker → ℕ → List ℕ → Type 0
PersonsReachBy w to m = PersonsReach w.sheet.words.now w.sheet.edges.now w.sheet.header w.walk to m

abbrev pub PersonsLeadBy : Walker → List ℕ → Type 0
PersonsLeadBy w d = PersonsLead w.sheet.words.now w.sheet.edges.now w.sheet.header w.walk d

-- .. a person of the office
abbrev pub PersonLeadsBy : OfficeSheet → Walk → ℕ → ℕ → Type 0
PersonLeadsBy o w to p = PersonLeads o.sheet.words.now o.sheet.edges.now o.sheet.header o.seat.office w to p
