use Rattle.std.proofs.Common.{List, ℕ, sym, ap, ◌∙◌}
use Rattle.sqlite.specs.Held.{state}
use Rattle.canary_canonical.specs.Readings.{canonical_in}
use Rattle.canary_tables_contents.specs.Values.{made_from}
use Rattle.canary_tables.proofs.FoundServices.{no_service, service_told}
use Rattle.canary_tables.proofs.load_services.service.Goals as goal

pub returns-in_default-clause-found : goal.returns-in_default-clause-found
returns-in_default-clause-found g c usable =
    no_service (state g.S.Store c.args.conn.now) (state g.S.Store c.service.new.conn) c.args.name.now c.services_found.ensures c.requires.ready.desk c.service.ensures.reads.same usable (λ t has. sym c.in_default.is ∙ c.in_ok-row.ensures.found usable t has)

pub returns-clause-found : goal.returns-clause-found
returns-clause-found g c usable =
    service_told (state g.S.Store c.args.conn.now) (state g.S.Store c.service.new.conn) (state g.S.Store c.plan.new.conn) (state g.S.Store c.open_runs.new.conn) c.args.name.now c.in-Some.row c.in_ok-made.made c.in_ok-strategy.strategy c.in_ok-strategy.bound c.in_ok-open_runs.open_runs c.in_ok-service_of.field-0 c.services_found.ensures c.requires.ready.desk c.service.ensures.reads.same c.plan.ensures.reads.same c.open_runs.ensures.reads.same usable
    (λ shown t has. sym c.in-Some.is ∙ c.in_ok-row.ensures.found shown t has)
    (ap (λ (text : List ℕ). made_from (canonical_in text)) (sym c.as_str.ensures) ∙ c.in_ok-made.ensures.made) c.in_ok-strategy.ensures.strategy c.in_ok-strategy.ensures.bound (c.in_ok-open_runs.ensures.found usable) c.in_ok-service_of.ensures.found
