use Rattle.std.proofs.Common.{List, ◌++◌, drop}
use Rattle.json.specs.Value.{items_view}
use Rattle.canary_measure.specs.declared.measured.Given.{Given}
use Rattle.canary_provider.specs.Answers.{AreValues}
use Rattle.canary_provider.proofs.values.values_of.Given as goal

abbrev pub invariant-loop-item : goal.invariant-loop-item
invariant-loop-item l = record {
  whole : (rest : List Given) → AreValues l.kind (items_view (drop l.item-index l.list)) rest → AreValues l.kind (items_view l.list) (l.values.items ++ rest);
  left : (all : List Given) → AreValues l.kind (items_view l.list) all → (rest : List Given) × AreValues l.kind (items_view (drop l.item-index l.list)) rest;
}
