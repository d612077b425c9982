use Rattle.std.proofs.Common.{◌≡◌}
use Rattle.serde_json.specs.View.{members_view}
use Rattle.canary_manifest.specs.Rollouts.{any_other}
use Rattle.canary_manifest.proofs.rollout.is_any_other.Given as goal

abbrev pub invariant-loop-key : goal.invariant-loop-key
invariant-loop-key l = any_other (members_view l.key-iterator) ≡ any_other (members_view l.members.entries)
