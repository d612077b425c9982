use Rattle.std.proofs.Common.{refl, sym}
use Rattle.canary_tables_read.proofs.ByColumns.{columns_are}
use Rattle.canary_tables_read.proofs.from_row.standing.Goals as goal

pub returns-clause-found : goal.returns-clause-found
returns-clause-found c =
    sym (columns_are c.args.row.now _ c.requires (refl, (c.in_ok-label_at.ensures.found, (c.in_ok-label_at-2.ensures.found, (c.in_ok-number_at.ensures.found, (c.in_ok-number_at-2.ensures.found, (c.in_ok-moment_at.ensures.found, (c.in_ok-number_at-3.ensures.found, (c.in_ok-number_at-4.ensures.found, (c.in_ok-number_at-5.ensures.found, (c.in_ok-moment_at-2.ensures.found, tt)))))))))))
