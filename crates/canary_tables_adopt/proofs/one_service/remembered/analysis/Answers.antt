use Rattle.std.proofs.Common.{◌≡◌, List, length, Err, Some, rules, ap, sym, ◌∙◌}
use Rattle.std.specs.Option.{option_copied}
use Rattle.canary_plan.specs.declared.analysis_parts.AnalysisParts.{AnalysisParts}
use Rattle.canary_plan.specs.declared.analysis_parts.Revision.{Revision}
use Rattle.canary_plan.specs.declared.bound.BoundParts.{BoundParts}
use Rattle.canary_plan.specs.Plans.{analysis_at, distinct}
use Rattle.canary_tables_read.specs.declared.fault.ReadFault.TheVariants.{Broken}
use Rattle.canary_tables_adopt.proofs.KnownBindings.{run_whole}
use Rattle.canary_tables_adopt.proofs.RememberedLemmas.{of_this_run, all_named, so_many}
use Rattle.canary_tables_adopt.proofs.PlacedLemmas.{refused}
use Rattle.canary_tables_adopt.proofs.one_service.remembered.analysis.Goals as goal

pub returns-in_err-binding-clause-broken : goal.returns-in_err-binding-clause-broken
returns-in_err-binding-clause-broken g c service run usable t has judged given is within such =
    let broken : c.bound.result ≡ Err Broken = search rules in
    c.bound.ensures.broken usable t has judged given.1 broken within
    (all_named t service run c.args.rows.now given.0 (run_whole t service run c.args.strategy.now c.args.step such.0 c.bindings.ensures.runs judged such.1))

pub returns-in_default-clause-broken : goal.returns-in_default-clause-broken
returns-in_default-clause-broken g c service run usable t has judged given is within such =
    let found = c.in_ok-binding.ensures.found usable t has given.1 in
    let bound = of_this_run t service run c.args.rows.now c.args.strategy.now c.in_ok-binding.binding.bound given.0 found.0.bound in
    let there = sym (ap (λ (b : BoundParts). analysis_at b c.args.step) bound) ∙ sym c.analysis.ensures.value in
    search rules

pub returns-then-branch-clause-found : goal.returns-then-branch-clause-found
returns-then-branch-clause-found g c service run usable t has given =
    let found = c.in_ok-binding.ensures.found usable t has given.1 in
    let bound = of_this_run t service run c.args.rows.now c.args.strategy.now c.in_ok-binding.binding.bound given.0 found.0.bound in (
      record {
        is = sym (ap (λ (b : BoundParts). analysis_at b c.args.step) bound) ∙ sym c.analysis.ensures.value ∙ ap option_copied c.in-Some.is ∙ ap Some (sym c.in_ok-copy.ensures);
        rows = ap length (sym given.0) ∙ sym found.0.many ∙ c.in_ok-are_all.ensures.0 c.if-branch.true ∙ ap (λ (rs : List Revision). length (distinct rs)) c.revisions.ensures.value
            ∙ ap (λ (a : AnalysisParts). length (distinct a.revisions)) (sym c.in_ok-copy.ensures);
      },
      found.1,
    )

pub returns-clause-broken : goal.returns-clause-broken
returns-clause-broken g c service run usable t has judged given is within such =
    let found = c.in_ok-binding.ensures.found usable t has given.1 in
    let bound = of_this_run t service run c.args.rows.now c.args.strategy.now c.in_ok-binding.binding.bound given.0 found.0.bound in
    let own = sym (ap (λ (b : BoundParts). analysis_at b c.args.step) bound) ∙ sym c.analysis.ensures.value ∙ ap option_copied c.in-Some.is in
    let many = so_many t service run c.args.strategy.now c.args.step c.in-Some.analysis.now such.0 c.in_ok-binding.binding.rows own such.1 (found.0.many ∙ ap length given.0) in
    refused _ c.in_ok-are_all.ensures (search rules) (many ∙ ap (λ (rs : List Revision). length (distinct rs)) (sym c.revisions.ensures.value))
