use Rattle.std.proofs.Common.{◌≡◌, Err, rules}
use Rattle.canary_tables_read.specs.declared.fault.ReadFault.TheVariants.{Broken}
use Rattle.canary_migrate.proofs.plan.bindings_of_run.Goals as goal

pub returns-in_err-run-clause-broken : goal.returns-in_err-run-clause-broken
returns-in_err-run-clause-broken g c usable t has is within =
    let broken : c.run.result ≡ Err Broken = search rules in
    c.run.ensures.broken usable t has broken within
