use Rattle.canary_migrate.specs.Migrated.{counted_with}
use Rattle.canary_migrate.proofs.tallies.counted.Goals as goal

pub returns-in-None-clause-broken : goal.returns-in-None-clause-broken
returns-in-None-clause-broken c e within = c.in-None.ensures ((c.consistent.ensures (counted_with c.args.row.now c.args.passes).counts).1 within.counts)
