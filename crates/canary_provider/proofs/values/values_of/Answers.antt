use Rattle.std.proofs.Common.{◌≡◌, ◌+◌, List, ◌++◌, drop, rules, sym, ap, ◌∙◌, subst}
use Rattle.std.proofs.lemmas.List.{at_drop_more, drop_all}
use Rattle.json.specs.Json.{item}
use Rattle.json.specs.Value.{value_view, items_view}
use Rattle.canary_measure.specs.declared.measured.Given.{Given}
use Rattle.canary_provider.specs.Answers.{AreValues, Refutes}
use Rattle.canary_provider.proofs.ValueLemmas.{one_more, first_has, refuted, all_are}
use Rattle.canary_provider.proofs.values.values_of.Goals as goal

pub loop-item-preserved : goal.loop-item-preserved
loop-item-preserved c =
    let list = c.args.list.now in
    let after = items_view (drop (c.loop-item.item-index + 1) list) in
    let x = c.item-item.result in
    let step : items_view (drop c.loop-item.item-index list) ≡ item (value_view x) after =
    at_drop_more items_view list c.loop-item.item-index x c.loop-item-test.true ∙ ap (λ v. item (value_view v) after) (sym c.item-item.is) in
    record {
      whole = λ rest are. subst (λ (gs : List Given). AreValues c.args.kind (items_view list) (gs ++ rest)) (sym c.in_ok-push.ensures.items)
          (one_more c.args.kind (value_view x) after (items_view list) c.loop-item.values.items c.in_ok-value_of.field-0 c.in_ok-value_of.ensures.sound
          (λ more have. c.loop-item.invariant.whole more (subst (λ js. AreValues c.args.kind js more) (sym step) have)) rest are);
      left = λ all are.
          let rest = c.loop-item.invariant.left all are in
          let first = first_has c.args.kind (value_view x) after rest.0 (subst (λ js. AreValues c.args.kind js rest.0) step rest.1) in
          (first.2, first.3);
    }

pub returns-in_err-value_of-clause-complete : goal.returns-in_err-value_of-clause-complete
returns-in_err-value_of-clause-complete c =
    let list = c.args.list.now in
    let after = items_view (drop (c.loop-item.item-index + 1) list) in
    let x = c.item-item.result in
    let step : items_view (drop c.loop-item.item-index list) ≡ item (value_view x) after =
    at_drop_more items_view list c.loop-item.item-index x c.loop-item-test.true ∙ ap (λ v. item (value_view v) after) (sym c.item-item.is) in
    let none : Refutes (AreValues c.args.kind (items_view list)) c.in_err-value_of.field-0.0 =
    refuted c.args.kind (value_view x) after (items_view list) c.in_err-value_of.field-0.0
    (λ all are. let rest = c.loop-item.invariant.left all are in (rest.0, subst (λ js. AreValues c.args.kind js rest.0) step rest.1))
    c.in_err-value_of.ensures.complete in
    search rules

pub returns-clause-sound : goal.returns-clause-sound
returns-clause-sound c =
    let list = c.args.list.now in
    all_are c.args.kind (items_view (drop c.loop-item.item-index list)) (items_view list) c.loop-item.values.items
    (ap items_view (drop_all c.loop-item.item-index list c.loop-item-test.false)) c.loop-item.invariant.whole
