use Rattle.std.proofs.Common.{ℕ, List, ◌++◌, drop}
use Rattle.json.specs.Value.{items_view}
use Rattle.canary_provider.specs.Plans.{AreHeaders}
use Rattle.canary_provider.proofs.fields.headers_of.Given as goal

-- whatever completes what is left completes the whole
abbrev pub invariant-loop-item : goal.invariant-loop-item
invariant-loop-item l = (rest : List (List ℕ)) → AreHeaders (items_view (drop l.item-index l.list)) rest → AreHeaders (items_view l.list) (l.lines.items ++ rest)
