use Rattle.std.proofs.Common.{ap, ◌∙◌}
use Rattle.std.specs.FinMap as map
use Rattle.canary_plan.proofs.Named.{one_set}
use Rattle.canary_plan.proofs.templates.Templates.insert.Goals as goal

pub returns-clause-ok : goal.returns-clause-ok
returns-clause-ok c = one_set c.self.inside.templates.entries c.insert.new.self.entries c.args.name c.args.template c.in_ok-insert.ensures.updates.0 ∙ ap (λ m. map.insert m c.args.name c.args.template) c.self.view_is
