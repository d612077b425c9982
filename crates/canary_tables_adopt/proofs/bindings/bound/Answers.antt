use Rattle.std.proofs.Common.{◌≡◌, length, Err, rules, ap, subst, ◌∙◌}
use Rattle.std.specs.Prelude.{option_map}
use Rattle.std.specs.FinMap.{get}
use Rattle.canary_tables_adopt.specs.Bindings.{IsKnownBy}
use Rattle.canary_tables_adopt.proofs.Standing.{stores_then}
use Rattle.canary_tables_adopt.proofs.KnownBindings.{bound_told}
use Rattle.canary_tables_read.specs.declared.fault.ReadFault.TheVariants.{Broken}
use Rattle.canary_tables_adopt.proofs.bindings.bound.Goals as goal

pub returns-in_err-rows-clause-broken : goal.returns-in_err-rows-clause-broken
returns-in_err-rows-clause-broken g c usable t has judged is within whole =
    let broken : c.bindings.result ≡ Err Broken = search rules in
    c.bindings.ensures.broken usable t has broken within.bindings

pub returns-clause-found : goal.returns-clause-found
returns-clause-found g c usable t has =
    let usable_then = (c.known_by.ensures.reads.same usable).0 in
    let rows = c.in_ok-rows.ensures.found usable_then t has in
    let known = c.in_ok-known.ensures.found usable t (stores_then (g.Q.Reader.shows c.args.conn.now) (g.Q.Reader.shows c.bindings.new.conn) t c.bindings.ensures.reads.same usable_then has) in
    record {
      bound = bound_told t c.args.service.now 0 c.as_slice.result.now c.in-Some.known c.args.strategy.now c.in_ok-bound_to.field-0 (c.as_slice.ensures ∙ rows)
          (subst (λ o. IsKnownBy c.as_slice.result.now t (option_map get o)) c.in-Some.is known) c.in_ok-bound_to.ensures;
      rows = ap length (c.as_slice-2.ensures ∙ rows);
    }
