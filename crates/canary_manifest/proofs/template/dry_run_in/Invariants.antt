use Rattle.std.proofs.Common.{◌≡◌, drop}
use Rattle.serde_json.specs.View.{items_view}
use Rattle.canary_canonical.specs.Forms.{each}
use Rattle.canary_manifest.specs.Templates.{dry_run_name}
use Rattle.canary_canonical.proofs.Items.{with_front}
use Rattle.canary_manifest.proofs.template.dry_run_in.Given as goal

abbrev pub invariant-loop-item : goal.invariant-loop-item
invariant-loop-item l = with_front l.names.items (each dry_run_name (items_view (drop l.item-index l.list.items))) ≡ each dry_run_name (items_view l.list.items)
