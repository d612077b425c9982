use Rattle.std.proofs.Common.{◌≡◌, ◌++◌, drop, map, take}
use Rattle.std.specs.Prelude.{true}
use Rattle.std.specs.List.{list_all}
use Rattle.canary_release.specs.Rules.Recording.{takes}
use Rattle.canary_release.specs.Watching.{counted_in}
use Rattle.canary_release.proofs.runs.count_runs.Given as goal

-- those so far are counted, and the rest have room
abbrev pub invariant-loop-run : goal.invariant-loop-run
invariant-loop-run l =
    (take l.run-index l.run-items ++ map (counted_in l.recorded) (drop l.run-index l.run-items) ≡ map (counted_in l.recorded) l.fn.runs) × (list_all (takes l.recorded) (drop l.run-index l.run-items) ≡ true)
