use Rattle.std.proofs.Common.{◌≡◌, Err, rules}
use Rattle.canary_tables_read.specs.declared.fault.ReadFault.TheVariants.{Broken}
use Rattle.canary_migrate.proofs.Standing.{stores_then}
use Rattle.canary_migrate.proofs.plan.bindings_of.Goals as goal

pub returns-in_err-rows-clause-broken : goal.returns-in_err-rows-clause-broken
returns-in_err-rows-clause-broken g c usable t has is within =
    let broken : c.service_rows.result ≡ Err Broken = search rules in
    c.service_rows.ensures.broken usable t has broken within.0

pub returns-in-Some-clause-broken : goal.returns-in-Some-clause-broken
returns-in-Some-clause-broken g c usable t has is within =
    c.row_bindings.ensures.broken usable t (stores_then (g.Q.Reader.shows c.args.conn.now) (g.Q.Reader.shows c.service_rows.new.conn) t c.service_rows.ensures.reads.same (c.row_bindings.ensures.reads.same usable).0 has) is within.1
