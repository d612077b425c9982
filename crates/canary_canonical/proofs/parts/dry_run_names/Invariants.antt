use Rattle.std.proofs.Common.{◌≡◌, map, take, drop}
use Rattle.std.specs.List.{list_all}
use Rattle.serde_json.specs.Data.{string}
use Rattle.canary_plan.specs.Limits.{is_dry_run_name}
use Rattle.serde_json.specs.View.{view}
use Rattle.canary_canonical.proofs.parts.dry_run_names.Given as goal

abbrev pub invariant-loop-name : goal.invariant-loop-name
invariant-loop-name l = record {
  written : map view l.values.items ≡ map string (take l.name-index l.names);
  kept : list_all is_dry_run_name (drop l.name-index l.names) ≡ list_all is_dry_run_name l.names;
}
