use Rattle.std.proofs.Common.{◌≡◌, take}
use Rattle.canary_plan.proofs.template_spec.copy_dry_run.Given as goal

-- those so far are copied
abbrev pub invariant-loop-name : goal.invariant-loop-name
invariant-loop-name l = l.copies ≡ take l.name-index l.names
