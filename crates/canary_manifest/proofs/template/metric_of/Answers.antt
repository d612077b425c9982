use Rattle.std.proofs.Common.{◌≡◌, Some, None, rules, ap, sym, ◌∙◌, codes}
use Rattle.std.specs.Prelude.{option_and_then}
use Rattle.serde_json.specs.View.{view}
use Rattle.canary_canonical.specs.Forms.{label_in}
use Rattle.canary_canonical.specs.Readings.{metric_with}
use Rattle.canary_manifest.specs.Members.{in_member, in_member_or, condition_in}
use Rattle.canary_manifest.specs.Templates.{metric_of, metric_by, numbers_of}
use Rattle.canary_manifest.proofs.Metrics.{metric_by_numbers, unread}
use Rattle.canary_manifest.proofs.template.metric_of.Goals as goal

pub returns-in_err-numbers : goal.returns-in_err-numbers
returns-in_err-numbers c =
    let none : numbers_of (view c.args.metric.now) ≡ None = search rules in
    let no_metric : metric_of (view c.args.metric.now) ≡ None = unread (view c.args.metric.now) none in
    search rules

pub returns : goal.returns
returns c =
    let named : in_member (codes "name") label_in (view c.args.metric.now) ≡ Some c.in_ok-name-2.name = search rules in
    let succeeds : in_member_or (codes "successCondition") None condition_in (view c.args.metric.now) ≡ Some c.in_ok-success.success = search rules in
    let fails : in_member_or (codes "failureCondition") None condition_in (view c.args.metric.now) ≡ Some c.in_ok-failure.failure = search rules in
    let numbered : numbers_of (view c.args.metric.now) ≡ Some c.in_ok-numbers.numbers = search rules in
    let is : metric_of (view c.args.metric.now) ≡ c.metric_by.result = metric_by_numbers (view c.args.metric.now) c.in_ok-name-2.name c.in_ok-success.success c.in_ok-failure.failure named succeeds fails ∙ ap (option_and_then (metric_by (metric_with c.in_ok-name-2.name c.in_ok-success.success c.in_ok-failure.failure))) numbered ∙ sym c.metric_by.ensures in
    search rules
