use Rattle.canary_tables_read.proofs.ByColumns.{columns_are}
use Rattle.canary_tables_read.proofs.first.FirstTallyFromFirstRow.read.Goals as goal

pub returns-clause-found : goal.returns-clause-found
returns-clause-found c =
    columns_are c.args.row.now _ c.in_ok-has_width.ensures.found (c.in_ok-name_at.ensures.found, (c.in_ok-number_at.ensures.found, (c.in_ok-number_at-2.ensures.found, (c.in_ok-number_at-3.ensures.found, (c.in_ok-number_at-4.ensures.found, (c.in_ok-number_at-5.ensures.found, (c.in_ok-number_at-6.ensures.found, (c.in_ok-number_at-7.ensures.found, (c.in_ok-maybe_moment_at.ensures.found, tt)))))))))
