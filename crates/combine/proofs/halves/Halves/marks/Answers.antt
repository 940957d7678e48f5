-- `Halves::marks` meets its contract: a row's words have its marks.
use mathlib.Core.Path.{sym, ap, ap₂, ◌∙◌}
use Rattle.sheet.specs.declared.Cells.{Cells}
use Rattle.combine.specs.Rules.{makes}
use Rattle.combine.specs.Meets.{marks_made}
use Rattle.combine.proofs.Reading.{words-marks}
use Rattle.combine.proofs.halves.Halves.marks.Goals as goal

pub returns-in-First : goal.returns-in-First
returns-in-First c = let H = c.args.self.now in
    c.made.ensures ∙ ap (λ x. makes H.rule x 0) (ap (λ (x : Cells). x.offices) c.cells.ensures ∙ words-marks H.half _ _) ∙ sym (ap (marks_made H) c.in-First.is)

pub returns-in-Second : goal.returns-in-Second
returns-in-Second c = let H = c.args.self.now in
    c.made-in-Second.ensures ∙ ap (makes H.rule 0) (ap (λ (x : Cells). x.offices) c.cells-in-Second.ensures ∙ words-marks H.half _ _) ∙ sym (ap (marks_made H) c.in-Second.is)

pub returns-in-Both : goal.returns-in-Both
returns-in-Both c = let H = c.args.self.now in
    c.made-in-Both.ensures ∙ ap₂ (makes H.rule) (ap (λ (x : Cells). x.offices) c.cells-in-Both.ensures ∙ words-marks H.half _ _) (ap (λ (x : Cells). x.offices) c.cells-in-Both-2.ensures ∙ words-marks H.half _ _) ∙ sym (ap (marks_made H) c.in-Both.is)
