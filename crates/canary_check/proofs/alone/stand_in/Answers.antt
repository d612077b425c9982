use Rattle.std.proofs.Common.{ap, ◌∙◌}
use Rattle.canary_plan.specs.Plans.{template_of}
use Rattle.canary_plan.specs.declared.template_spec.TemplateSpec.{TemplateSpec}
use Rattle.canary_check.proofs.alone.stand_in.Goals as goal

pub returns-in-Ok : goal.returns-in-Ok
returns-in-Ok c = c.in-Ok.ensures.1 ∙ ap (λ (spec : TemplateSpec). template_of spec 1) c.in_ok-spec.ensures
