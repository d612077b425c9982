use Rattle.std.proofs.Common.{◌≡◌, Err, rules, ◌∙◌}
use Rattle.std.proofs.lemmas.Result.{IfOk-weaker}
use Rattle.canary_tables_read.specs.declared.fault.ReadFault.TheVariants.{Broken}
use Rattle.std.specs.FinMap.{get}
use Rattle.std.specs.Prelude.{option_map}
use Rattle.canary_tables_adopt.proofs.Standing.{stores_then}
use Rattle.canary_tables_adopt.proofs.KnownBindings.{known_told}
use Rattle.canary_tables_adopt.proofs.bindings.bound_templates.Goals as goal

pub returns-in_err-rows-clause-broken : goal.returns-in_err-rows-clause-broken
returns-in_err-rows-clause-broken g c usable t has is within =
    let broken : c.bindings.result ≡ Err Broken = search rules in
    c.bindings.ensures.broken usable t has broken within.bindings

pub returns-clause-found : goal.returns-clause-found
returns-clause-found g c usable t has =
    let usable_then = (c.known_by.ensures.reads.same usable).0 in
    let rows = c.as_slice.ensures ∙ c.in_ok-rows.ensures.found usable_then t has in
    IfOk-weaker c.known_by.result _ _ (λ found is. known_told t c.args.service.now c.args.run c.as_slice.result.now (option_map get found) rows is)
    (c.known_by.ensures.found usable t (stores_then (g.Q.Reader.shows c.args.conn.now) (g.Q.Reader.shows c.bindings.new.conn) t c.bindings.ensures.reads.same usable_then has))

pub returns-clause-broken : goal.returns-clause-broken
returns-clause-broken g c usable t has is within =
    c.known_by.ensures.broken usable t (stores_then (g.Q.Reader.shows c.args.conn.now) (g.Q.Reader.shows c.bindings.new.conn) t c.bindings.ensures.reads.same (c.known_by.ensures.reads.same usable).0 has) is within
