use Rattle.std.proofs.Common.{◌≡◌, Err, rules, ap, ◌∙◌}
use Rattle.std.proofs.lemmas.Result.{IfOk-weaker}
use Rattle.std.specs.List.{flat_map}
use Rattle.canary_tables_read.specs.declared.fault.ReadFault.TheVariants.{Broken}
use Rattle.canary_migrate.specs.Migrated.{bindings_named}
use Rattle.canary_migrate.proofs.Standing.{stores_then}
use Rattle.canary_migrate.proofs.plan.bindings.Goals as goal

pub returns-in_err-names-clause-broken : goal.returns-in_err-names-clause-broken
returns-in_err-names-clause-broken g c usable t has is within =
    let broken : c.service_names.result ≡ Err Broken = search rules in
    c.service_names.ensures.broken usable t has broken within.0

pub returns-clause-found : goal.returns-clause-found
returns-clause-found g c usable t has =
    let mid = (c.bindings_of_all.ensures.reads.same usable).0 in
    let stored = stores_then (g.Q.Reader.shows c.args.conn.now) (g.Q.Reader.shows c.service_names.new.conn) t c.service_names.ensures.reads.same mid has in
    IfOk-weaker c.bindings_of_all.result _ _ (λ found e. e ∙ ap (flat_map (bindings_named t.services t.runs)) (c.as_slice.ensures ∙ c.in_ok-names.ensures.found mid t has)) (c.bindings_of_all.ensures.found usable t stored)

pub returns-clause-broken : goal.returns-clause-broken
returns-clause-broken g c usable t has is within =
    let mid = (c.bindings_of_all.ensures.reads.same usable).0 in
    c.bindings_of_all.ensures.broken usable t (stores_then (g.Q.Reader.shows c.args.conn.now) (g.Q.Reader.shows c.service_names.new.conn) t c.service_names.ensures.reads.same mid has) is within
