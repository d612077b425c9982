use Rattle.std.proofs.Common.{◌≡◌, take}
use Rattle.canary_tables_contents.specs.Services.{open_runs_in}
use Rattle.canary_tables_adopt.proofs.one_service.service.open_among.Given as goal

abbrev pub invariant-loop-run : goal.invariant-loop-run
invariant-loop-run l = l.found ≡ open_runs_in (take l.run-index l.runs)
