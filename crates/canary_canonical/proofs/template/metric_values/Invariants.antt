use Rattle.std.proofs.Common.{◌≡◌, map, take, drop}
use Rattle.std.specs.List.{list_all}
use Rattle.canary_canonical.specs.Texts.{metric_data}
use Rattle.canary_canonical.specs.Laws.{keeps_metric}
use Rattle.serde_json.specs.View.{view}
use Rattle.canary_canonical.proofs.template.metric_values.Given as goal

abbrev pub invariant-loop-metric : goal.invariant-loop-metric
invariant-loop-metric l = record {
  written : map view l.values.items ≡ map metric_data (take l.metric-index l.metrics);
  kept : list_all keeps_metric (drop l.metric-index l.metrics) ≡ list_all keeps_metric l.metrics;
}
