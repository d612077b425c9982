use Rattle.std.proofs.Common.{◌≡◌, drop}
use Rattle.serde_json.specs.View.{items_view}
use Rattle.canary_manifest.specs.Members.{any_item}
use Rattle.canary_manifest.specs.Templates.{is_unsupported_metric}
use Rattle.canary_manifest.proofs.template.is_any_metric_unsupported.Given as goal

abbrev pub invariant-loop-metric : goal.invariant-loop-metric
invariant-loop-metric l = any_item is_unsupported_metric (items_view (drop l.metric-index l.list.items)) ≡ any_item is_unsupported_metric (items_view l.list.items)
