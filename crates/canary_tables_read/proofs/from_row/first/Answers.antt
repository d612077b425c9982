use Rattle.std.proofs.Common.{rules}
use Rattle.canary_tables_read.proofs.Breaking.{first_broken}
use Rattle.canary_tables_read.proofs.from_row.first.Goals as goal

pub returns-in_err-read-in-Some-clause-broken : goal.returns-in_err-read-in-Some-clause-broken
returns-in_err-read-in-Some-clause-broken g c e =
    first_broken g.R.FromRow.cells (g.R.FromRow.whole c.args.name.now) g.R.FromRow.Within c.args.rows.now c.in-Some.row.now (search rules) (λ x is within. c.in_err-read-in-Some.ensures.broken (search rules) x is within)
