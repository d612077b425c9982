use Rattle.std.proofs.Common.{◌≡◌, drop}
use Rattle.serde_json.specs.View.{items_view}
use Rattle.canary_canonical.specs.Forms.{each}
use Rattle.canary_manifest.specs.Templates.{metric_of}
use Rattle.canary_canonical.proofs.Items.{with_front}
use Rattle.canary_manifest.proofs.template.metrics_in.Given as goal

abbrev pub invariant-loop-item : goal.invariant-loop-item
invariant-loop-item l = with_front l.metrics.items (each metric_of (items_view (drop l.item-index l.list.items))) ≡ each metric_of (items_view l.list.items)
