use Rattle.std.proofs.Common.{◌≡◌, filter, take}
use Rattle.canary_tables_adopt.specs.Pages.{is_bound_at}
use Rattle.canary_tables_adopt.proofs.one_service.pages.bindings_of.Given as goal

-- those of the rows so far
abbrev pub invariant-loop-row : goal.invariant-loop-row
invariant-loop-row l = l.found ≡ filter (is_bound_at l.number) (take l.row-index l.rows)
