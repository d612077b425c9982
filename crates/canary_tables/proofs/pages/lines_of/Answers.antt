use Rattle.std.proofs.Common.{rules, ◌≡◌, ◌∙◌, ap, get_or, None}
use Rattle.canary_tables_contents.specs.Values.{line_of_row}
use Rattle.canary_tables.proofs.Sought.{one_missing}
use Rattle.canary_tables.proofs.pages.lines_of.Goals as goal

pub returns-in_err-lines-clause-storage : goal.returns-in_err-lines-clause-storage
returns-in_err-lines-clause-storage c = λ is lines same.
    let none : line_of_row c.row-item.result ≡ None = c.with_line.ensures.storage (search rules) in
    let item : get_or c.args.rows.now c.loop-row.row-index c.row-item.result ≡ c.row-item.result = search rules in
    one_missing line_of_row c.args.rows.now c.loop-row.row-index c.row-item.result lines (search rules) (ap line_of_row item ∙ none) same
