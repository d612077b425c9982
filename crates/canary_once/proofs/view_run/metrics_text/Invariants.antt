use Rattle.std.proofs.Common.{◌≡◌, ◌∷◌, map, take}
use Rattle.std.specs.Prelude.{string_bytes}
use Rattle.std.specs.List.{join_with_byte, zip}
use Rattle.canary_once.specs.Views.{metric_view}
use Rattle.canary_once.proofs.view_run.metrics_text.Given as goal

-- the metrics so far, after the bracket
abbrev pub invariant-loop-i : goal.invariant-loop-i
invariant-loop-i l = string_bytes l.text ≡ 91 ∷ join_with_byte 44 (map (metric_view l.run) (take l.i (zip l.metrics l.tallies)))
