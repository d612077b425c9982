use Rattle.std.proofs.Common.{sym, ◌∙◌}
use Rattle.sqlite.specs.Held.{state}
use Rattle.canary_tables.proofs.FoundRuns.{no_run, run_told}
use Rattle.canary_tables.proofs.load_runs.run_of.Goals as goal

pub returns-in_default-clause-found : goal.returns-in_default-clause-found
returns-in_default-clause-found g c usable by =
    no_run (state g.S.Store c.args.conn.now) (state g.S.Store c.run.new.conn) c.args.name.now c.args.number c.args.made.now c.runs_found.ensures c.requires.ready.desk by c.run.ensures.reads.same usable (λ t has. sym c.in_default.is ∙ c.in_ok-row.ensures.found usable t has)

pub returns-clause-found : goal.returns-clause-found
returns-clause-found g c usable by =
    run_told (state g.S.Store c.args.conn.now) (state g.S.Store c.run.new.conn) (state g.S.Store c.tallies.new.conn) (state g.S.Store c.bound_at.new.conn) c.args.name.now c.args.number c.args.made.now c.in-Some.row c.in_ok-tallies.tallies c.in_ok-bound.bound c.in_ok-record_of.field-0 c.runs_found.ensures c.requires.ready.desk by
    c.run.ensures.reads.same c.tallies.ensures.reads.same c.bound_at.ensures.reads.same usable (λ midway t has. sym c.in-Some.is ∙ c.in_ok-row.ensures.found midway t has) c.in_ok-tallies.ensures.found (c.in_ok-bound.ensures.found usable) c.in_ok-record_of.ensures.told
