use Rattle.sqlite.specs.Held.{state}
use Rattle.std.proofs.lemmas.Result.{IfOk-weaker}
use Rattle.canary_tables.proofs.FoundRuns.{open_runs_told}
use Rattle.canary_tables.proofs.load_runs.open_runs.Goals as goal

pub returns-clause-found : goal.returns-clause-found
returns-clause-found g c usable =
    IfOk-weaker c.with_tallies.result _ _
    (λ found is. open_runs_told (state g.S.Store c.args.conn.now) (state g.S.Store c.open_runs.new.conn) (state g.S.Store c.with_tallies.new.conn) c.args.bound.now c.args.name.now c.in_ok-rows.rows c.as_slice.result.now found c.open_runs_found.ensures c.requires.ready.desk c.open_runs.ensures.reads.same c.with_tallies.ensures.reads.same usable c.in_ok-rows.ensures.found c.as_slice.ensures is)
    (c.with_tallies.ensures.found usable)
