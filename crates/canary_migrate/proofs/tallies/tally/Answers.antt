use Rattle.std.proofs.Common.{◌≡◌, Err, rules}
use Rattle.canary_tables_read.specs.declared.fault.ReadFault.TheVariants.{Broken}
use Rattle.canary_migrate.proofs.tallies.tally.Goals as goal

pub returns-in_err-measurements-clause-broken : goal.returns-in_err-measurements-clause-broken
returns-in_err-measurements-clause-broken g c usable t has is within =
    let broken : c.measurements.result ≡ Err Broken = search rules in
    c.measurements.ensures.broken usable t has broken within.0
