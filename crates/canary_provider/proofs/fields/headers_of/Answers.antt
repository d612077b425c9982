use Rattle.std.proofs.Common.{◌≡◌, ◌+◌, ℕ, List, ◌++◌, drop, sym, ap, ◌∙◌, subst}
use Rattle.std.proofs.lemmas.List.{at_drop_more, drop_all}
use Rattle.json.specs.Json.{item}
use Rattle.json.specs.Value.{value_view, items_view}
use Rattle.canary_provider.specs.Plans.{AreHeaders}
use Rattle.canary_provider.proofs.ValueLemmas.{one_header, all_headers}
use Rattle.canary_provider.proofs.fields.headers_of.Goals as goal

pub loop-item-preserved : goal.loop-item-preserved
loop-item-preserved c rest are =
    let list = c.args.list.now in
    let after = items_view (drop (c.loop-item.item-index + 1) list) in
    let x = c.item-item.result in
    let step : items_view (drop c.loop-item.item-index list) ≡ item (value_view x) after =
    at_drop_more items_view list c.loop-item.item-index x c.loop-item-test.true ∙ ap (λ v. item (value_view v) after) (sym c.item-item.is) in
    subst (λ (lines : List (List ℕ)). AreHeaders (items_view list) (lines ++ rest)) (sym c.in_ok-push.ensures.items)
    (one_header (value_view x) after (items_view list) c.loop-item.lines.items c.in_ok-header_of.field-0 c.in_ok-header_of.ensures
    (λ more have. c.loop-item.invariant more (subst (λ js. AreHeaders js more) (sym step) have)) rest are)

pub returns : goal.returns
returns c =
    let list = c.args.list.now in
    all_headers (items_view (drop c.loop-item.item-index list)) (items_view list) c.loop-item.lines.items
    (ap items_view (drop_all c.loop-item.item-index list c.loop-item-test.false)) c.loop-item.invariant
