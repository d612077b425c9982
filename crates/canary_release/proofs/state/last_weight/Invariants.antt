use Rattle.std.proofs.Common.{◌≡◌, drop}
use Rattle.std.specs.Prelude.{None}
use Rattle.std.specs.List.{filter_map, last_or}
use Rattle.canary_release.specs.Services.{weight_set}
use Rattle.canary_release.proofs.state.last_weight.Given as goal

-- what is left, from the weight so far, gives the weight of all
abbrev pub invariant-loop-step : goal.invariant-loop-step
invariant-loop-step l = last_or l.last (filter_map weight_set (drop l.step-index l.steps)) ≡ last_or None (filter_map weight_set l.steps)
