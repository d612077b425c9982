use Rattle.std.proofs.Common.{rules, ◌≡◌, ◌∙◌, ap, get_or, None}
use Rattle.canary_tables_read.specs.Places.{row_of}
use Rattle.canary_tables_contents.specs.Values.{measurement_of_row}
use Rattle.canary_tables.proofs.Sought.{one_missing, mapped}
use Rattle.canary_tables.proofs.pages.measurements_of.Goals as goal

pub returns-in_err-measurement_of-clause-storage : goal.returns-in_err-measurement_of-clause-storage
returns-in_err-measurement_of-clause-storage c = λ is page same.
    let none : measurement_of_row (row_of c.placed-item.result) ≡ None = c.measurement_of.ensures.storage (search rules) in
    let item : get_or c.args.rows.now c.loop-placed.placed-index c.placed-item.result ≡ c.placed-item.result = search rules in
    one_missing (λ p. measurement_of_row (row_of p)) c.args.rows.now c.loop-placed.placed-index c.placed-item.result page (search rules) (ap (λ p. measurement_of_row (row_of p)) item ∙ none) (same ∙ mapped measurement_of_row row_of c.args.rows.now)
