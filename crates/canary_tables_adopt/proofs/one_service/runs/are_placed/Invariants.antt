use Rattle.std.proofs.Common.{◌↔◌, drop}
use Rattle.canary_tables_adopt.specs.OfService.{ArePlaced}
use Rattle.canary_tables_adopt.proofs.one_service.runs.are_placed.Given as goal

-- those that are left stand at their places if all do
abbrev pub invariant-loop-place : goal.invariant-loop-place
invariant-loop-place l = ArePlaced 0 l.rows ↔ ArePlaced l.place (drop l.place l.rows)
