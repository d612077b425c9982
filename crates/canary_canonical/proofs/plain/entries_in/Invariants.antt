use Rattle.std.proofs.Common.{◌≡◌, drop}
use Rattle.serde_json.specs.View.{items_view}
use Rattle.canary_canonical.specs.Forms.{each}
use Rattle.canary_canonical.specs.Readings.{entry_in}
use Rattle.canary_canonical.proofs.Items.{with_front}
use Rattle.canary_canonical.proofs.plain.entries_in.Given as goal

abbrev pub invariant-loop-item : goal.invariant-loop-item
invariant-loop-item l = with_front l.entries.items (each entry_in (items_view (drop l.item-index l.list.items))) ≡ each entry_in (items_view l.list.items)
