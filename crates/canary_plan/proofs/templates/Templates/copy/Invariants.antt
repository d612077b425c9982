use Rattle.std.proofs.Common.{◌≡◌}
use Rattle.canary_plan.proofs.Copying.{filled}
use Rattle.canary_plan.proofs.templates.Templates.copy.Given as goal

abbrev pub invariant-loop-name : goal.invariant-loop-name
invariant-loop-name l = filled l.copies l.name-iterator ≡ l.self
