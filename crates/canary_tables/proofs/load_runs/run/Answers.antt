use Rattle.std.proofs.Common.{List, ℕ, sym, ap, ◌∙◌}
use Rattle.std.proofs.lemmas.Result.{IfOk-weaker}
use Rattle.sqlite.specs.Held.{state}
use Rattle.canary_canonical.specs.Readings.{canonical_in}
use Rattle.canary_tables_contents.specs.Values.{made_from}
use Rattle.canary_tables.proofs.FoundRuns.{no_service, made_by, run_before}
use Rattle.canary_tables.proofs.load_runs.run.Goals as goal

pub returns-in_default-clause-found : goal.returns-in_default-clause-found
returns-in_default-clause-found g c usable =
    no_service (state g.S.Store c.args.conn.now) (state g.S.Store c.service.new.conn) c.args.name.now c.args.number c.runs_have_services.ensures c.requires.ready.desk c.service.ensures.reads.same usable (λ t has. sym c.in_default.is ∙ c.in_ok-row.ensures.found usable t has)

pub returns-clause-found : goal.returns-clause-found
returns-clause-found g c usable =
    let old = state g.S.Store c.args.conn.now in
    let shown = state g.S.Store c.service.new.conn in
    let midway = (c.run_of.ensures.reads.same usable).0 in
    let by = made_by old shown c.args.name.now c.in-Some.row c.in_ok-made.made c.requires.ready.desk c.service.ensures.reads.same midway (λ t has. sym c.in-Some.is ∙ c.in_ok-row.ensures.found midway t has) (ap (λ (text : List ℕ). made_from (canonical_in text)) (sym c.as_str.ensures) ∙ c.in_ok-made.ensures.made) in
    IfOk-weaker c.run_of.result _ _ (λ found is. run_before old shown c.args.name.now c.args.number c.get.result found c.service.ensures.reads.same midway is c.get.ensures.value) (c.run_of.ensures.found usable by)
