use Rattle.std.proofs.Common.{◌≡◌, drop}
use Rattle.serde_json.specs.View.{items_view}
use Rattle.canary_manifest.specs.Members.{any_item}
use Rattle.canary_manifest.specs.Rollouts.{is_unsupported_step}
use Rattle.canary_manifest.proofs.rollout.is_any_step_unsupported.Given as goal

abbrev pub invariant-loop-step : goal.invariant-loop-step
invariant-loop-step l = any_item is_unsupported_step (items_view (drop l.step-index l.list.items)) ≡ any_item is_unsupported_step (items_view l.list.items)
