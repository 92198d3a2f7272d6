-- `report` meets its contract: what is no sketch is refused; else a blank table of its size is read into. Assumes nothing.
use Rattle.std.proofs.Common.{◌≡◌, ◌*◌, true, false, refl, rules}
use Rattle.table.specs.Kind.{capacity, width}
use Rattle.report.proofs.Telling.{blank_table, reports_none, reports_told}
use Rattle.report.proofs.report.Goals as goal

pub returns-in_default-clause-reports : goal.returns-in_default-clause-reports
returns-in_default-clause-reports c = reports_none _ _ (c.in_default.ensures.none.0 refl) c.refused.ensures.text

pub returns-clause-reports : goal.returns-clause-reports
returns-clause-reports c =
    reports_told _ _ _ (λ none. let two : true ≡ false = c.in-Some.ensures.none.1 none in cc)
    (blank_table c.in-Some.n (capacity * width) (search rules) _ (search rules)) c.tell.ensures.told
