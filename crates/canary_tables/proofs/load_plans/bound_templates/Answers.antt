use Rattle.sqlite.specs.Held.{state}
use Rattle.canary_tables_schema.specs.Cells.{tables_in}
use Rattle.canary_tables.specs.Desk.{IsDesk}
use Rattle.canary_tables.proofs.FoundPlans.{known_told}
use Rattle.canary_tables.proofs.load_plans.bound_templates.Goals as goal

pub returns-clause-found : goal.returns-clause-found
returns-clause-found g c usable =
    let old = state g.S.Store c.args.conn.now in
    let desk : IsDesk old = c.requires.ready.desk (c.bound_templates.ensures.reads.same usable).0 in
    known_told c.args.name.now c.args.run (tables_in old.now) c.in_ok-bound_templates.field-0 c.in-Some.bound_templates c.in-Some.is (c.in_ok-bound_templates.ensures.found usable (tables_in old.now) desk.stores)
