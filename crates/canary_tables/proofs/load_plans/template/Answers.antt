use Rattle.std.proofs.Common.{Some, None, ap, ◌∙◌}
use Rattle.std.specs.Prelude.{option_and_then}
use Rattle.sqlite.specs.Held.{state}
use Rattle.canary_tables_contents.specs.Values.{revision_of_row}
use Rattle.canary_tables.proofs.FoundPlans.{template_told}
use Rattle.canary_tables.proofs.load_plans.template.Goals as goal

pub returns-in_default-clause-found : goal.returns-in_default-clause-found
returns-in_default-clause-found g c usable =
    template_told (state g.S.Store c.args.conn.now) (state g.S.Store c.newest.new.conn) c.args.name.now c.in_ok-row.field-0 None c.newest_found.ensures c.requires.ready.desk c.newest.ensures.reads.same usable (λ t has. c.in_ok-row.ensures.found usable t has) (ap (option_and_then revision_of_row) c.in_default.is)

pub returns-clause-found : goal.returns-clause-found
returns-clause-found g c usable =
    template_told (state g.S.Store c.args.conn.now) (state g.S.Store c.newest.new.conn) c.args.name.now c.in_ok-row.field-0 (Some c.in_ok-revision.field-0) c.newest_found.ensures c.requires.ready.desk c.newest.ensures.reads.same usable (λ t has. c.in_ok-row.ensures.found usable t has)
    (ap (option_and_then revision_of_row) c.in-Some.is ∙ c.in_ok-revision.ensures.found)
