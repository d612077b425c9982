use Rattle.std.proofs.Common.{◌≡◌, Err, None, rules, subst, ap, ◌∙◌}
use Rattle.std.specs.Prelude.{option_map}
use Rattle.std.specs.FinMap.{get}
use Rattle.canary_plan.specs.Plans.{Templates, bound_of}
use Rattle.canary_tables_read.specs.declared.fault.ReadFault.TheVariants.{Broken}
use Rattle.canary_tables_adopt.specs.Bindings.{IsKnownBy}
use Rattle.canary_tables_adopt.proofs.one_service.remembered.bound.Goals as goal

pub returns-in_err-known-clause-broken : goal.returns-in_err-known-clause-broken
returns-in_err-known-clause-broken g c usable t has judged are is within all =
    let broken : c.known_by.result ≡ Err Broken = search rules in
    c.known_by.ensures.broken usable t has broken within

pub returns-in_default-clause-broken : goal.returns-in_default-clause-broken
returns-in_default-clause-broken g c usable t has judged are is within all =
    let none : c.in_ok-known.field-0 ≡ None = search rules in
    subst (λ o. IsKnownBy c.args.rows.now t (option_map get o)) none (c.in_ok-known.ensures.found usable t has are).0 all

pub returns-clause-found : goal.returns-clause-found
returns-clause-found g c usable t has are =
    let told = c.in_ok-known.ensures.found usable t has are in
    let known = subst (λ o. IsKnownBy c.args.rows.now t (option_map get o)) c.in-Some.is told.0 in (
      record {
        bound = c.in_ok-bound_to.ensures ∙ ap (λ (k : Templates). bound_of k c.args.strategy.now) known;
        many = search rules;
      },
      told.1,
    )
