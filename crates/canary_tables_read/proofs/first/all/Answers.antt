use Rattle.std.proofs.Common.{rules}
use Rattle.canary_tables_read.proofs.FirstTexts.{one_unheld}
use Rattle.canary_tables_read.proofs.first.all.Goals as goal

pub returns-in_err-read-clause-broken : goal.returns-in_err-read-clause-broken
returns-in_err-read-clause-broken g c e =
    one_unheld g.R.FromFirstRow.cells g.R.FromFirstRow.Within c.args.rows.now c.loop-row.row-index c.row-item.result (search rules) (λ x is within. c.in_err-read.ensures.broken (search rules) x (search rules) within)
