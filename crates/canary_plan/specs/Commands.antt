-- Commands: what each names and asks for, which templates it looks up, and when two are the same.
use Rattle.std.specs.Prelude.{◌≡◌, ◌↔◌, ℕ, ◌==◌, ◌&&◌, Bool, true, false, List, [], ◌∷◌, flat_map, Option, Some, None}
use Rattle.std.specs.Ordering.{int_eq}
use Rattle.std.specs.Str.{bytes_eq}
use Rattle.std.specs.Cmp.Lexicographic.{pointwise}
use Rattle.canary_condition.specs.declared.outcome.Value.{Value}
use Rattle.canary_condition.specs.declared.outcome.Value.TheVariants.{Whole, List as ListResult}
use Rattle.canary_condition.specs.declared.outcome.Outcome.{Outcome}
use Rattle.canary_condition.specs.declared.outcome.Outcome.TheVariants.{Result as Brought, Failure}
use Rattle.canary_plan.specs.declared.step.Step.{Step}
use Rattle.canary_plan.specs.declared.step.Step.TheVariants.{SetWeight, Pause, Analysis}
use Rattle.canary_plan.specs.declared.service.Background.{Background}
use Rattle.canary_plan.specs.declared.service.ServiceSpec.{ServiceSpec}
use Rattle.canary_plan.specs.declared.template_spec.MetricSpec.{MetricSpec}
use Rattle.canary_plan.specs.declared.template_spec.TemplateSpec.{TemplateSpec}
use Rattle.canary_plan.specs.declared.report.Entry.{Entry}
use Rattle.canary_plan.specs.declared.report.Report.{Report}
use Rattle.canary_plan.specs.declared.command.Command.{Command}
use Rattle.canary_plan.specs.declared.command.Command.TheVariants as command
use Rattle.canary_plan.specs.declared.command.CommandKind.{CommandKind}
use Rattle.canary_plan.specs.declared.command.CommandKind.TheVariants as kind
use Rattle.canary_plan.specs.declared.strategy.CheckedStrategy.{CheckedStrategy}
use Rattle.canary_plan.specs.PlanRefusals.{analyses_in, analyses}

abbrev pub kind_of : Command → CommandKind
kind_of (command.Template spec) = kind.Template
kind_of (command.Service spec) = kind.Service
kind_of (command.Start service version) = kind.Start
kind_of (command.Promote service) = kind.Promote
kind_of (command.PromoteFull service) = kind.PromoteFull
kind_of (command.Abort service) = kind.Abort
kind_of (command.Retry service) = kind.Retry
kind_of (command.Tick service) = kind.Tick
kind_of (command.Report report) = kind.Report

-- the service that a command names, or the template
abbrev pub subject_of : Command → List ℕ
subject_of (command.Template spec) = spec.name
subject_of (command.Service spec) = spec.name
subject_of (command.Start service version) = service
subject_of (command.Promote service) = service
subject_of (command.PromoteFull service) = service
subject_of (command.Abort service) = service
subject_of (command.Retry service) = service
subject_of (command.Tick service) = service
subject_of (command.Report report) = report.service

-- the version that a release is to begin with
abbrev pub version_of : Command → Option (List ℕ)
version_of (command.Start service version) = Some version
version_of other = None

-- the template that is asked for
abbrev pub template_in : Command → Option TemplateSpec
template_in (command.Template spec) = Some spec
template_in other = None

-- the service that is asked for
abbrev pub service_in : Command → Option ServiceSpec
service_in (command.Service spec) = Some spec
service_in other = None

-- the measurements that are reported
abbrev pub report_in : Command → Option Report
report_in (command.Report report) = Some report
report_in other = None

-- the names of several lists, in order
abbrev pub all_names : List (List (List ℕ)) → List (List ℕ)
all_names lists = flat_map (λ (names : List (List ℕ)). names) lists

-- the templates of the analyses of the strategy that a service has, if it is there
abbrev pub names_in : Option CheckedStrategy → List (List ℕ)
names_in None = []
names_in (Some s) = all_names (analyses_in s.steps s.background)

-- the templates that a command looks up, if the service that it names has this strategy: its
-- own, those of its analyses, or those to which an attempt is bound
abbrev pub names_looked_up : Option CheckedStrategy → Command → List (List ℕ)
names_looked_up found (command.Template spec) = spec.name ∷ []
names_looked_up found (command.Service spec) = all_names (analyses spec)
names_looked_up found (command.Start service version) = names_in found
names_looked_up found (command.Retry service) = names_in found
names_looked_up found other = []

-- When two are the same.

abbrev pub same_option : {A : Type 0} → (A → A → Bool) → Option A → Option A → Bool
same_option same None None = true
same_option same (Some a) (Some b) = same a b
same_option same a b = false

abbrev pub same_number : ℕ → ℕ → Bool
same_number a b = a == b

abbrev pub same_names : List (List ℕ) → List (List ℕ) → Bool
same_names = pointwise bytes_eq

abbrev pub same_step : Step → Step → Bool
same_step (SetWeight a) (SetWeight b) = a == b
same_step (Pause a) (Pause b) = same_option same_number a b
same_step (Analysis a) (Analysis b) = same_names a b
same_step a b = false

abbrev pub same_background : Background → Background → Bool
same_background a b = same_names a.templates b.templates && a.starting_step == b.starting_step

abbrev pub same_limits : MetricSpec → MetricSpec → Bool
same_limits a b =
    a.failure_limit == b.failure_limit
    && (a.inconclusive_limit == b.inconclusive_limit
    && a.consecutive_error_limit == b.consecutive_error_limit)

-- measured as often, at the same times, and until as many succeed in a row
abbrev pub same_times : MetricSpec → MetricSpec → Bool
same_times a b =
    same_option same_number a.interval b.interval
    && (a.initial_delay == b.initial_delay
    && (same_option same_number a.count b.count
    && same_option same_number a.pass_after b.pass_after))

abbrev pub same_metric : MetricSpec → MetricSpec → Bool
same_metric a b =
    bytes_eq a.name b.name
    && (same_option bytes_eq a.success b.success
    && (same_option bytes_eq a.failure b.failure && (same_times a b && same_limits a b)))

abbrev pub same_template : TemplateSpec → TemplateSpec → Bool
same_template a b =
    bytes_eq a.name b.name
    && (pointwise same_metric a.metrics b.metrics && same_names a.dry_run b.dry_run)

abbrev pub same_service : ServiceSpec → ServiceSpec → Bool
same_service a b =
    bytes_eq a.name b.name
    && (bytes_eq a.version b.version
    && (pointwise same_step a.steps b.steps
    && same_option same_background a.background b.background))

abbrev pub same_value : Value → Value → Bool
same_value (Whole a) (Whole b) = int_eq a b
same_value (ListResult a) (ListResult b) = pointwise int_eq a b
same_value a b = false

abbrev pub same_outcome : Outcome → Outcome → Bool
same_outcome (Brought a) (Brought b) = same_value a b
same_outcome (Failure a) (Failure b) = bytes_eq a b
same_outcome a b = false

abbrev pub same_entry : Entry → Entry → Bool
same_entry a b =
    bytes_eq a.metric b.metric
    && (a.ordinal == b.ordinal && (a.taken == b.taken && same_outcome a.outcome b.outcome))

abbrev pub same_report : Report → Report → Bool
same_report a b =
    bytes_eq a.service b.service && (a.run == b.run && pointwise same_entry a.entries b.entries)

-- the place of a kind among the kinds
abbrev pub place_of_kind : CommandKind → ℕ
place_of_kind kind.Template = 0
place_of_kind kind.Service = 1
place_of_kind kind.Start = 2
place_of_kind kind.Promote = 3
place_of_kind kind.PromoteFull = 4
place_of_kind kind.Abort = 5
place_of_kind kind.Retry = 6
place_of_kind kind.Tick = 7
place_of_kind kind.Report = 8

abbrev pub same_kind : CommandKind → CommandKind → Bool
same_kind a b = place_of_kind a == place_of_kind b

-- the parts but for the kind
abbrev pub same_parts : Command → Command → Bool
same_parts a b =
    bytes_eq (subject_of a) (subject_of b)
    && (same_option bytes_eq (version_of a) (version_of b)
    && (same_option same_template (template_in a) (template_in b)
    && (same_option same_service (service_in a) (service_in b)
    && same_option same_report (report_in a) (report_in b))))

-- of one kind, with the same parts
abbrev pub same_command : Command → Command → Bool
same_command a b = same_kind (kind_of a) (kind_of b) && same_parts a b

-- the law: commands are the same exactly if they are equal
abbrev pub SameWhereEqual : Type 0
SameWhereEqual = (a b : Command) → (same_command a b ≡ true) ↔ (a ≡ b)
