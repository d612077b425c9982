use Rattle.std.proofs.Common.{◌≡◌, Err, None, rules, ap, subst, ◌∙◌}
use Rattle.std.specs.FinMap.{insert}
use Rattle.canary_plan.specs.declared.template.Template.{Template}
use Rattle.canary_tables_read.specs.declared.fault.ReadFault.TheVariants.{Broken}
use Rattle.canary_tables_adopt.specs.Bindings.{IsTemplateOf}
use Rattle.canary_tables_adopt.proofs.RememberedLemmas.{one_kept}
use Rattle.canary_tables_adopt.proofs.one_service.remembered.template_of.Goals as goal

pub returns-in_err-template-2-clause-broken : goal.returns-in_err-template-2-clause-broken
returns-in_err-template-2-clause-broken g c usable t has is within =
    let broken : c.template_of.result ≡ Err Broken = search rules in
    c.template_of.ensures.broken usable t has broken within

pub returns-in_default-2-clause-found : goal.returns-in_default-2-clause-found
returns-in_default-2-clause-found g c usable t has are =
    let none : c.in_ok-template-2.field-0 ≡ None = search rules in
    (subst (IsTemplateOf c.args.row.now t) none (c.in_ok-template-2.ensures.found usable t has), are)

pub returns-clause-found : goal.returns-clause-found
returns-clause-found g c usable t has are =
    let is = subst (IsTemplateOf c.args.row.now t) c.in-Some-2.is (c.in_ok-template-2.ensures.found usable t has) in
    (is, one_kept t c.args.row.now c.args.memo.now c.insert.new.self c.in-Some-2.template are is (c.in_ok-insert.ensures.ok ∙ ap (λ (x : Template). insert c.args.memo.now c.args.row.now.template x) c.in_ok-copy.ensures))
