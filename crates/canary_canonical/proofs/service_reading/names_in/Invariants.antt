use Rattle.std.proofs.Common.{◌≡◌, drop}
use Rattle.serde_json.specs.View.{items_view}
use Rattle.canary_canonical.specs.Forms.{each, name_in}
use Rattle.canary_canonical.proofs.Items.{with_front}
use Rattle.canary_canonical.proofs.service_reading.names_in.Given as goal

abbrev pub invariant-loop-item : goal.invariant-loop-item
invariant-loop-item l = with_front l.names.items (each name_in (items_view (drop l.item-index l.list.items))) ≡ each name_in (items_view l.list.items)
