use Rattle.sqlite.specs.Held.{state}
use Rattle.canary_tables.proofs.FoundRuns.{tallies_told}
use Rattle.canary_tables.proofs.load_runs.tallies.Goals as goal

pub returns-clause-found : goal.returns-clause-found
returns-clause-found g c usable =
    tallies_told (state g.S.Store c.args.conn.now) (state g.S.Store c.tallies.new.conn) c.args.name.now c.args.number c.in_ok-rows.rows c.as_slice.result.now c.in_ok-counts_of.field-0 c.tallies_found.ensures c.requires.ready.desk c.tallies.ensures.reads.same usable (c.in_ok-rows.ensures.found usable) c.as_slice.ensures c.in_ok-counts_of.ensures
