use Rattle.std.proofs.Common.{◌≡◌, map, take, drop}
use Rattle.std.specs.List.{list_all}
use Rattle.canary_canonical.specs.Texts.{signed_data}
use Rattle.canary_canonical.specs.Laws.{is_signed_word}
use Rattle.serde_json.specs.View.{view}
use Rattle.canary_canonical.proofs.report.number_values.Given as goal

abbrev pub invariant-loop-number : goal.invariant-loop-number
invariant-loop-number l = record {
  written : map view l.values.items ≡ map signed_data (take l.number-index l.numbers);
  kept : list_all is_signed_word (drop l.number-index l.numbers) ≡ list_all is_signed_word l.numbers;
}
