use Rattle.std.proofs.Common.{◌≡◌, map, take, drop}
use Rattle.std.specs.List.{list_all}
use Rattle.canary_canonical.specs.Texts.{step_data}
use Rattle.canary_canonical.specs.Laws.{keeps_step}
use Rattle.serde_json.specs.View.{view}
use Rattle.canary_canonical.proofs.service.step_values.Given as goal

abbrev pub invariant-loop-step : goal.invariant-loop-step
invariant-loop-step l = record {
  written : map view l.values.items ≡ map step_data (take l.step-index l.steps);
  kept : list_all keeps_step (drop l.step-index l.steps) ≡ list_all keeps_step l.steps;
}
