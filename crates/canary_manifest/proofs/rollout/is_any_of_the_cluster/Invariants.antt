use Rattle.std.proofs.Common.{◌≡◌, drop, codes}
use Rattle.serde_json.specs.View.{items_view}
use Rattle.canary_manifest.specs.Members.{any_item, has, is_true}
use Rattle.canary_manifest.proofs.rollout.is_any_of_the_cluster.Given as goal

abbrev pub invariant-loop-template : goal.invariant-loop-template
invariant-loop-template l = any_item (has (codes "clusterScope") is_true) (items_view (drop l.template-index l.list.items)) ≡ any_item (has (codes "clusterScope") is_true) (items_view l.list.items)
