use Rattle.std.proofs.Common.{rules}
use Rattle.canary_tables_read.proofs.Holding.{one_missing}
use Rattle.canary_tables_read.proofs.held.all.Goals as goal

pub returns-in_default-clause-broken : goal.returns-in_default-clause-broken
returns-in_default-clause-broken g c e all same = one_missing g.R.Held.held c.args.rows.now c.loop-row.row-index c.row-item.result all (search rules) (search rules) same
