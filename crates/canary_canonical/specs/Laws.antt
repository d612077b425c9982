-- What holds of canonical texts.
use Rattle.std.specs.Prelude.{◌≡◌, ◌↔◌, ℕ, ℤ, pos, negsuc, length, Bool, true, ◌&&◌, nat_le, nat_lt, ◌^◌, IsTrue, Option, Some, None}
use Rattle.std.specs.List.{list_all}
use Rattle.canary_base.specs.Names.{is_name, is_label}
use Rattle.canary_condition.specs.declared.outcome.Value.TheVariants.{Whole, List as ListResult}
use Rattle.canary_condition.specs.declared.outcome.Outcome.{Outcome}
use Rattle.canary_condition.specs.declared.outcome.Outcome.TheVariants.{Result as Brought, Failure}
use Rattle.canary_plan.specs.declared.step.Step.{Step}
use Rattle.canary_plan.specs.declared.step.Step.TheVariants.{SetWeight, Pause, Analysis}
use Rattle.canary_plan.specs.declared.service.Background.{Background}
use Rattle.canary_plan.specs.declared.service.ServiceSpec.{ServiceSpec}
use Rattle.canary_plan.specs.declared.template_spec.MetricSpec.{MetricSpec}
use Rattle.canary_plan.specs.declared.template_spec.TemplateSpec.{TemplateSpec}
use Rattle.canary_plan.specs.declared.report.Entry.{Entry}
use Rattle.canary_plan.specs.declared.report.Report.{Report}
use Rattle.canary_plan.specs.declared.command.Command.{Command}
use Rattle.canary_plan.specs.declared.command.Command.TheVariants as command
use Rattle.canary_plan.specs.Commands.{subject_of}
use Rattle.canary_plan.specs.Limits.{is_dry_run_name}
use Rattle.canary_canonical.specs.Texts.{command_text}
use Rattle.canary_canonical.specs.Readings.{canonical_in}

-- The limits of a command's parts that the model does not show by itself, since a name is a list of
-- bytes there and a duration a number. Each command of a program keeps them.

abbrev pub is_duration : ℕ → Bool
is_duration n = nat_le n 31536000

abbrev pub is_weight : ℕ → Bool
is_weight n = nat_le n 1000000

abbrev pub is_starting_step : ℕ → Bool
is_starting_step n = nat_le n 64

-- a word of 64 bits with a sign holds it
abbrev pub is_signed_word : ℤ → Bool
is_signed_word (pos n) = nat_lt n (2 ^ 63)
is_signed_word (negsuc n) = nat_lt n (2 ^ 63)

abbrev pub all_of : {A : Type 0} → (A → Bool) → Option A → Bool
all_of test None = true
all_of test (Some part) = test part

unfoldable pub keeps_metric : MetricSpec → Bool
keeps_metric m = is_label m.name && (all_of is_duration m.interval && is_duration m.initial_delay)

unfoldable pub keeps_template : TemplateSpec → Bool
keeps_template t =
    is_name t.name && (list_all keeps_metric t.metrics && list_all is_dry_run_name t.dry_run)

unfoldable pub keeps_step : Step → Bool
keeps_step (SetWeight percent) = is_weight percent
keeps_step (Pause duration) = all_of is_duration duration
keeps_step (Analysis templates) = list_all is_name templates

unfoldable pub keeps_background : Background → Bool
keeps_background b = list_all is_name b.templates && is_starting_step b.starting_step

unfoldable pub keeps_service : ServiceSpec → Bool
keeps_service s =
    is_name s.name
    && (is_label s.version
    && (list_all keeps_step s.steps && all_of keeps_background s.background))

unfoldable pub keeps_outcome : Outcome → Bool
keeps_outcome (Brought (Whole number)) = is_signed_word number
keeps_outcome (Brought (ListResult values)) =
    (nat_le 1 (length values) && nat_le (length values) 16) && list_all is_signed_word values
keeps_outcome (Failure text) = nat_le 1 (length text) && nat_le (length text) 200

unfoldable pub keeps_entry : Entry → Bool
keeps_entry e = is_label e.metric && (nat_le e.taken 253370764799 && keeps_outcome e.outcome)

unfoldable pub keeps_report : Report → Bool
keeps_report r = is_name r.service && list_all keeps_entry r.entries

-- each part of the command keeps its limits
unfoldable pub keeps_limits : Command → Bool
keeps_limits (command.Template spec) = keeps_template spec
keeps_limits (command.Service spec) = keeps_service spec
keeps_limits (command.Start service version) = is_name service && is_label version
keeps_limits (command.Report report) = keeps_report report
keeps_limits other = is_name (subject_of other)

abbrev pub KeepsLimits : Command → Type 0
KeepsLimits c = IsTrue (keeps_limits c)

-- the law: a command's text is read as the command
abbrev pub ReadsBack : Type 0
ReadsBack = (c : Command) → KeepsLimits c → canonical_in (command_text c) ≡ Some c

-- the law: two commands have one text exactly if they are equal
abbrev pub OneText : Type 0
OneText =
    (a b : Command) → KeepsLimits a → KeepsLimits b → (command_text a ≡ command_text b) ↔ (a ≡ b)
