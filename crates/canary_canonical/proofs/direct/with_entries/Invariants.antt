use Rattle.std.proofs.Common.{◌≡◌, ◌++◌, map, drop, false}
use Rattle.std.specs.Prelude.{nat_lt, string_bytes}
use Rattle.std.specs.List.{list_all}
use Rattle.serde_json.specs.View.{items_of}
use Rattle.serde_json.specs.Written.{items_text}
use Rattle.canary_canonical.specs.Texts.{entry_data}
use Rattle.canary_canonical.specs.Laws.{keeps_entry}
use Rattle.canary_canonical.proofs.direct.with_entries.Given as goal

-- what is left to write goes after what is written
abbrev pub invariant-loop-i : goal.invariant-loop-i
invariant-loop-i l = record {
  written : string_bytes l.all ++ items_text (nat_lt 0 l.i) (items_of (map entry_data (drop l.i l.entries))) ≡ string_bytes l.fn.text ++ items_text false (items_of (map entry_data l.entries));
  kept : list_all keeps_entry (drop l.i l.entries) ≡ list_all keeps_entry l.entries;
}
