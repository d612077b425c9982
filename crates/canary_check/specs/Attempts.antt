-- Which Rollouts the desk refuses as an attempt begins, on a desk with the templates of other
-- manifests.
use Rattle.std.specs.Prelude.{ℕ, List, Bool, true, ◌||◌, None, is_none, if◌then◌else◌}
use Rattle.std.specs.FinMap as map
use Rattle.canary_plan.specs.declared.template_spec.TemplateSpec.{TemplateSpec}
use Rattle.canary_plan.specs.declared.command.Command.{Command}
use Rattle.canary_plan.specs.declared.command.Command.TheVariants as command
use Rattle.canary_plan.specs.Plans.{template_of, has_unknown}
use Rattle.canary_plan.specs.PlanRefusals.{template_refusal}
use Rattle.canary_plan.specs.Commands.{names_looked_up}
use Rattle.canary_manifest.specs.Readings.{Reading, unsupported, unreadable, readable}
use Rattle.canary_manifest.specs.Commands.{body_reading}
use Rattle.canary_check.specs.Taken.{Known, refusal_on, template_body, service_body}

-- ---- the templates of a desk

-- these templates, and that which is asked for, unless it is refused
abbrev pub with_spec : Known → TemplateSpec → Known
with_spec known spec =
    if is_none (template_refusal spec)
    then map.insert known spec.name (template_of spec 1)
    else known

abbrev pub with_command : Known → Command → Known
with_command known (command.Template spec) = with_spec known spec
with_command known other = known

abbrev pub with_reading : Known → Reading Command → Known
with_reading known unsupported = known
with_reading known unreadable = known
with_reading known (readable asked) = with_command known asked

-- these templates, and that of the manifest of this text, if it is an AnalysisTemplate that the
-- desk takes
abbrev pub with_template : Known → List ℕ → Known
with_template known text = with_reading known (body_reading (template_body text))

-- ---- attempts on such a desk

abbrev pub is_command_bound : Known → Command → Bool
is_command_bound known (command.Service spec) =
    has_unknown (map.get known) (names_looked_up None (command.Service spec))
    || is_none (refusal_on known spec)
is_command_bound known other = true

abbrev pub is_reading_bound : Known → Reading Command → Bool
is_reading_bound known unsupported = true
is_reading_bound known unreadable = true
is_reading_bound known (readable asked) = is_command_bound known asked

-- on a desk with these templates, no attempt of the Rollout of this text is refused as it is bound;
-- of one that names a template which is not there, nothing is said
abbrev pub is_bound : Known → List ℕ → Bool
is_bound known text = is_reading_bound known (body_reading (service_body text))
