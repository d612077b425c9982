use Rattle.std.proofs.Common.{◌≡◌, drop}
use Rattle.serde_json.specs.View.{items_view}
use Rattle.std.specs.Prelude.{codes}
use Rattle.canary_canonical.specs.Forms.{each, name_in}
use Rattle.canary_manifest.specs.Members.{in_member}
use Rattle.canary_canonical.proofs.Items.{with_front}
use Rattle.canary_manifest.proofs.rollout.template_names.Given as goal

abbrev pub invariant-loop-item : goal.invariant-loop-item
invariant-loop-item l = with_front l.names.items (each (in_member (codes "templateName") name_in) (items_view (drop l.item-index l.list.items))) ≡ each (in_member (codes "templateName") name_in) (items_view l.list.items)
