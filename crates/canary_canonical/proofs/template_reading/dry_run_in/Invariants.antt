use Rattle.std.proofs.Common.{◌≡◌, drop}
use Rattle.serde_json.specs.View.{items_view}
use Rattle.canary_canonical.specs.Forms.{each}
use Rattle.canary_canonical.specs.Readings.{dry_run_name_in}
use Rattle.canary_canonical.proofs.Items.{with_front}
use Rattle.canary_canonical.proofs.template_reading.dry_run_in.Given as goal

abbrev pub invariant-loop-item : goal.invariant-loop-item
invariant-loop-item l = with_front l.names.items (each dry_run_name_in (items_view (drop l.item-index l.list.items))) ≡ each dry_run_name_in (items_view l.list.items)
