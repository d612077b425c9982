-- Commands are the same exactly if they are equal.
use Rattle.std.proofs.Common.{◌≡◌, ℕ, zero, suc, List, Bool, true, false, refl, sym, ap, ◌∙◌, true≢false, int_eq, IsTrue, length}
use Rattle.std.specs.Prelude.{◌&&◌, Option, Some, None, option_map}
use Rattle.std.specs.Bool.{Decides}
use Rattle.std.specs.Str.{bytes_eq}
use Rattle.std.specs.Cmp.Lexicographic.{pointwise}
use Rattle.std.proofs.Props.{props}
use Rattle.std.proofs.lemmas.Slice.Eq.{slice_eq-Decides, bytes_eq-Decides}
use Rattle.std.proofs.lemmas.Bool.Decides.{Decides-eqb, Decides-int_eq}
use mathlib.Core.HLevel.{is_prop→PathP}
use Rattle.canary_condition.specs.declared.outcome.Value.{Value}
use Rattle.canary_condition.specs.declared.outcome.Value.TheVariants.{Whole, List as ListResult}
use Rattle.canary_condition.specs.declared.outcome.Outcome.{Outcome}
use Rattle.canary_condition.specs.declared.outcome.Outcome.TheVariants.{Result as Brought, Failure}
use Rattle.canary_plan.specs.declared.step.Step.{Step}
use Rattle.canary_plan.specs.declared.step.Step.TheVariants.{SetWeight, Pause, Analysis}
use Rattle.canary_plan.specs.declared.service.Background.{Background}
use Rattle.canary_plan.specs.declared.service.ServiceSpec.{ServiceSpec}
use Rattle.canary_plan.specs.declared.template_spec.MetricSpec.{MetricSpec}
use Rattle.canary_plan.specs.declared.template_spec.TemplateSpec.{TemplateSpec}
use Rattle.canary_plan.specs.declared.report.Entry.{Entry}
use Rattle.canary_plan.specs.declared.report.Report.{Report}
use Rattle.canary_plan.specs.declared.command.Command.{Command}
use Rattle.canary_plan.specs.declared.command.Command.TheVariants as command
use Rattle.canary_plan.specs.declared.command.CommandKind.{CommandKind}
use Rattle.canary_plan.specs.declared.command.CommandKind.TheVariants as kind
use Rattle.canary_plan.specs.Limits.{are_metric_limits, is_metric_count, is_ordinal, are_report_limits}
use Rattle.canary_plan.specs.Commands.{kind_of, subject_of, version_of, template_in, service_in, report_in, same_option, same_number, same_names, same_step, same_background, same_metric, same_template, same_service, same_value, same_outcome, same_entry, same_report, place_of_kind, same_kind, SameWhereEqual}

both : (a b : Bool) → (a && b) ≡ true → (a ≡ true) × (b ≡ true)
both true b e = (refl, e)
both false b e = absurd (true≢false (sym e))

anded : (a b : Bool) → a ≡ true → b ≡ true → (a && b) ≡ true
anded a b p q = rw (p, q) refl

never : {A B : Type 0} → ¬ B → (false ≡ true → A) × (B → false ≡ true)
never differs = ((λ e. absurd (true≢false (sym e))), (λ b. absurd (differs b)))

-- of two tests, each decides its part
and_decides : {A B : Type 0} (a b : Bool) → Decides a A → Decides b B → Decides (a && b) (A × B)
and_decides a b p q = ((λ e. let h = both a b e in (p.0 h.0, q.0 h.1)), (λ h. anded a b (p.1 h.0) (q.1 h.1)))

-- what is decided, said in another way
decides_as : {A B : Type 0} (b : Bool) → Decides b A → (A → B) → (B → A) → Decides b B
decides_as b d to from = ((λ e. to (d.0 e)), (λ h. d.1 (from h)))

numbers_decide : (a b : ℕ) → Decides (same_number a b) (a ≡ b)
numbers_decide a b = Decides-eqb a b

-- an option of parts
options_decide : {A : Type 0} (same : A → A → Bool) → ((a b : A) → Decides (same a b) (a ≡ b)) → (a b : Option A) → Decides (same_option same a b) (a ≡ b)
options_decide same decide None None = ((λ e. refl), (λ e. refl))
options_decide same decide (Some a) (Some b) = ((λ e. ap Some ((decide a b).0 e)), (λ e. (decide a b).1 (cc e)))
options_decide same decide None (Some b) = never (λ e. cc e)
options_decide same decide (Some a) None = never (λ e. cc e)

texts_decide : (a b : Option (List ℕ)) → Decides (same_option bytes_eq a b) (a ≡ b)
texts_decide = options_decide bytes_eq bytes_eq-Decides

counts_decide : (a b : Option ℕ) → Decides (same_option same_number a b) (a ≡ b)
counts_decide = options_decide same_number numbers_decide

-- a list of parts
lists_decide : {A : Type 0} (same : A → A → Bool) → ((a b : A) → Decides (same a b) (a ≡ b)) → (s t : List A) → Decides (pointwise same s t) (s ≡ t)
lists_decide same decide s t = slice_eq-Decides decide s t (pointwise same s t) refl

names_decide : (s t : List (List ℕ)) → Decides (same_names s t) (s ≡ t)
names_decide = lists_decide bytes_eq bytes_eq-Decides

-- Templates.

MetricParts : MetricSpec → MetricSpec → Type 0
MetricParts a b =
    (a.name ≡ b.name) × ((a.success ≡ b.success) × ((a.failure ≡ b.failure) × (((a.interval ≡ b.interval) × ((a.initial_delay ≡ b.initial_delay) × ((a.count ≡ b.count) × (a.pass_after ≡ b.pass_after))))
    × ((a.failure_limit ≡ b.failure_limit) × ((a.inconclusive_limit ≡ b.inconclusive_limit) × (a.consecutive_error_limit ≡ b.consecutive_error_limit))))))

metric_parts_decide : (a b : MetricSpec) → Decides (same_metric a b) (MetricParts a b)
unfolding MetricParts
metric_parts_decide a b =
    and_decides _ _ (bytes_eq-Decides a.name b.name)
    (and_decides _ _ (texts_decide a.success b.success)
    (and_decides _ _ (texts_decide a.failure b.failure)
    (and_decides _ _
    (and_decides _ _ (counts_decide a.interval b.interval) (and_decides _ _ (Decides-eqb a.initial_delay b.initial_delay)
    (and_decides _ _ (counts_decide a.count b.count) (counts_decide a.pass_after b.pass_after))))
    (and_decides _ _ (Decides-eqb a.failure_limit b.failure_limit)
    (and_decides _ _ (Decides-eqb a.inconclusive_limit b.inconclusive_limit) (Decides-eqb a.consecutive_error_limit b.consecutive_error_limit))))))

parts_of_metrics : (a b : MetricSpec) → a ≡ b → MetricParts a b
unfolding MetricParts
parts_of_metrics a b e = (
  ap (λ (m : MetricSpec). m.name) e,
  (
    ap (λ (m : MetricSpec). m.success) e,
    (
      ap (λ (m : MetricSpec). m.failure) e,
      (
        (
          ap (λ (m : MetricSpec). m.interval) e,
          (
            ap (λ (m : MetricSpec). m.initial_delay) e,
            (ap (λ (m : MetricSpec). m.count) e, ap (λ (m : MetricSpec). m.pass_after) e),
          ),
        ),
        (
          ap (λ (m : MetricSpec). m.failure_limit) e,
          (ap (λ (m : MetricSpec). m.inconclusive_limit) e, ap (λ (m : MetricSpec). m.consecutive_error_limit) e),
        ),
      ),
    ),
  ),
)

-- the limits of equal parts have one proof
metrics_equal : (a b : MetricSpec) → MetricParts a b → a ≡ b
unfolding MetricParts
metrics_equal a b h =
    λ i. record {
      name = h.0 i;
      success = h.1.0 i;
      failure = h.1.1.0 i;
      interval = h.1.1.1.0.0 i;
      initial_delay = h.1.1.1.0.1.0 i;
      count = h.1.1.1.0.1.1.0 i;
      pass_after = h.1.1.1.0.1.1.1 i;
      failure_limit = h.1.1.1.1.0 i;
      inconclusive_limit = h.1.1.1.1.1.0 i;
      consecutive_error_limit = h.1.1.1.1.1.1 i;
      within = is_prop→PathP (λ j. IsTrue (are_metric_limits (h.1.0 j) (h.1.1.0 j) (h.1.1.1.0.1.1.0 j) (h.1.1.1.0.1.1.1 j) (h.1.1.1.1.0 j) (h.1.1.1.1.1.0 j) (h.1.1.1.1.1.1 j))) (λ j. hlevel props) a.within b.within i;
    }

metrics_decide : (a b : MetricSpec) → Decides (same_metric a b) (a ≡ b)
metrics_decide a b = decides_as _ (metric_parts_decide a b) (metrics_equal a b) (λ e. parts_of_metrics a b e)

templates_decide : (a b : TemplateSpec) → Decides (same_template a b) (a ≡ b)
templates_decide a b =
    decides_as _ (and_decides _ _ (bytes_eq-Decides a.name b.name) (and_decides _ _ (lists_decide same_metric metrics_decide a.metrics b.metrics) (names_decide a.dry_run b.dry_run)))
    (λ h i. record {
      name = h.0 i;
      metrics = h.1.0 i;
      dry_run = h.1.1 i;
      within = is_prop→PathP (λ j. IsTrue (is_metric_count (length (h.1.0 j)))) (λ j. hlevel props) a.within b.within i;
    })
    (λ e. (ap (λ (t : TemplateSpec). t.name) e, (ap (λ (t : TemplateSpec). t.metrics) e, ap (λ (t : TemplateSpec). t.dry_run) e)))

-- Services.

steps_decide : (a b : Step) → Decides (same_step a b) (a ≡ b)
steps_decide (SetWeight a) (SetWeight b) = decides_as _ (Decides-eqb a b) (λ e. ap SetWeight e) (λ e. cc e)
steps_decide (Pause a) (Pause b) = decides_as _ (counts_decide a b) (λ e. ap Pause e) (λ e. cc e)
steps_decide (Analysis a) (Analysis b) = decides_as _ (names_decide a b) (λ e. ap Analysis e) (λ e. cc e)
steps_decide (SetWeight a) (Pause b) = never (λ e. cc e)
steps_decide (SetWeight a) (Analysis b) = never (λ e. cc e)
steps_decide (Pause a) (SetWeight b) = never (λ e. cc e)
steps_decide (Pause a) (Analysis b) = never (λ e. cc e)
steps_decide (Analysis a) (SetWeight b) = never (λ e. cc e)
steps_decide (Analysis a) (Pause b) = never (λ e. cc e)

backgrounds_decide : (a b : Background) → Decides (same_background a b) (a ≡ b)
backgrounds_decide a b =
    decides_as _ (and_decides _ _ (names_decide a.templates b.templates) (Decides-eqb a.starting_step b.starting_step))
    (λ h i. record { templates = h.0 i; starting_step = h.1 i })
    (λ e. (ap (λ (x : Background). x.templates) e, ap (λ (x : Background). x.starting_step) e))

services_decide : (a b : ServiceSpec) → Decides (same_service a b) (a ≡ b)
services_decide a b =
    decides_as _
    (and_decides _ _ (bytes_eq-Decides a.name b.name)
    (and_decides _ _ (bytes_eq-Decides a.version b.version)
    (and_decides _ _ (lists_decide same_step steps_decide a.steps b.steps) (options_decide same_background backgrounds_decide a.background b.background))))
    (λ h i. record { name = h.0 i; version = h.1.0 i; steps = h.1.1.0 i; background = h.1.1.1 i })
    (λ e. (ap (λ (s : ServiceSpec). s.name) e, (ap (λ (s : ServiceSpec). s.version) e, (ap (λ (s : ServiceSpec). s.steps) e, ap (λ (s : ServiceSpec). s.background) e))))

-- Reports.

values_decide : (a b : Value) → Decides (same_value a b) (a ≡ b)
values_decide (Whole a) (Whole b) = decides_as _ (Decides-int_eq a b) (λ e. ap Whole e) (λ e. cc e)
values_decide (ListResult a) (ListResult b) = decides_as _ (lists_decide int_eq Decides-int_eq a b) (λ e. ap ListResult e) (λ e. cc e)
values_decide (Whole a) (ListResult b) = never (λ e. cc e)
values_decide (ListResult a) (Whole b) = never (λ e. cc e)

outcomes_decide : (a b : Outcome) → Decides (same_outcome a b) (a ≡ b)
outcomes_decide (Brought a) (Brought b) = decides_as _ (values_decide a b) (λ e. ap Brought e) (λ e. cc e)
outcomes_decide (Failure a) (Failure b) = decides_as _ (bytes_eq-Decides a b) (λ e. ap Failure e) (λ e. cc e)
outcomes_decide (Brought a) (Failure b) = never (λ e. cc e)
outcomes_decide (Failure a) (Brought b) = never (λ e. cc e)

entries_decide : (a b : Entry) → Decides (same_entry a b) (a ≡ b)
entries_decide a b =
    decides_as _
    (and_decides _ _ (bytes_eq-Decides a.metric b.metric)
    (and_decides _ _ (Decides-eqb a.ordinal b.ordinal) (and_decides _ _ (Decides-eqb a.taken b.taken) (outcomes_decide a.outcome b.outcome))))
    (λ h i. record {
      metric = h.0 i;
      ordinal = h.1.0 i;
      taken = h.1.1.0 i;
      outcome = h.1.1.1 i;
      within = is_prop→PathP (λ j. IsTrue (is_ordinal (h.1.0 j))) (λ j. hlevel props) a.within b.within i;
    })
    (λ e. (ap (λ (x : Entry). x.metric) e, (ap (λ (x : Entry). x.ordinal) e, (ap (λ (x : Entry). x.taken) e, ap (λ (x : Entry). x.outcome) e))))

reports_decide : (a b : Report) → Decides (same_report a b) (a ≡ b)
reports_decide a b =
    decides_as _
    (and_decides _ _ (bytes_eq-Decides a.service b.service) (and_decides _ _ (Decides-eqb a.run b.run) (lists_decide same_entry entries_decide a.entries b.entries)))
    (λ h i. record {
      service = h.0 i;
      run = h.1.0 i;
      entries = h.1.1 i;
      within = is_prop→PathP (λ j. IsTrue (are_report_limits (h.1.0 j) (length (h.1.1 j)))) (λ j. hlevel props) a.within b.within i;
    })
    (λ e. (ap (λ (r : Report). r.service) e, (ap (λ (r : Report). r.run) e, ap (λ (r : Report). r.entries) e)))

-- Commands.

-- the kind at a place
kind_at : ℕ → CommandKind
kind_at zero = kind.Template
kind_at (suc zero) = kind.Service
kind_at (suc (suc zero)) = kind.Start
kind_at (suc (suc (suc zero))) = kind.Promote
kind_at (suc (suc (suc (suc zero)))) = kind.PromoteFull
kind_at (suc (suc (suc (suc (suc zero))))) = kind.Abort
kind_at (suc (suc (suc (suc (suc (suc zero)))))) = kind.Retry
kind_at (suc (suc (suc (suc (suc (suc (suc zero))))))) = kind.Tick
kind_at (suc (suc (suc (suc (suc (suc (suc (suc n)))))))) = kind.Report

kind_there : (k : CommandKind) → kind_at (place_of_kind k) ≡ k
unfolding kind_at
kind_there kind.Template = refl
kind_there k = refl

kinds_decide : (a b : CommandKind) → Decides (same_kind a b) (a ≡ b)
kinds_decide a b = decides_as _ (Decides-eqb (place_of_kind a) (place_of_kind b)) (λ e. sym (kind_there a) ∙ ap kind_at e ∙ kind_there b) (λ e. ap place_of_kind e)

-- the command of a kind with these parts, if it has them
command_of : CommandKind → List ℕ → Option (List ℕ) → Option TemplateSpec → Option ServiceSpec → Option Report → Option Command
command_of kind.Template subject version template service report = option_map command.Template template
command_of kind.Service subject version template service report = option_map command.Service service
command_of kind.Start subject version template service report = option_map (command.Start subject) version
command_of kind.Promote subject version template service report = Some (command.Promote subject)
command_of kind.PromoteFull subject version template service report = Some (command.PromoteFull subject)
command_of kind.Abort subject version template service report = Some (command.Abort subject)
command_of kind.Retry subject version template service report = Some (command.Retry subject)
command_of kind.Tick subject version template service report = Some (command.Tick subject)
command_of kind.Report subject version template service report = option_map command.Report report

read_back : (c : Command) → command_of (kind_of c) (subject_of c) (version_of c) (template_in c) (service_in c) (report_in c) ≡ Some c
unfolding command_of
read_back (command.Template spec) = refl
read_back other = refl

some_command : (a b : Command) → ◌≡◌ {A = Option Command} (Some a) (Some b) → a ≡ b
some_command a b h = cc h

pub same_where_equal : SameWhereEqual
same_where_equal a b =
    decides_as _
    (and_decides _ _ (kinds_decide (kind_of a) (kind_of b))
    (and_decides _ _ (bytes_eq-Decides (subject_of a) (subject_of b))
    (and_decides _ _ (texts_decide (version_of a) (version_of b))
    (and_decides _ _ (options_decide same_template templates_decide (template_in a) (template_in b))
    (and_decides _ _ (options_decide same_service services_decide (service_in a) (service_in b)) (options_decide same_report reports_decide (report_in a) (report_in b)))))))
    (λ h. some_command a b (sym (read_back a) ∙ (λ i. command_of (h.0 i) (h.1.0 i) (h.1.1.0 i) (h.1.1.1.0 i) (h.1.1.1.1.0 i) (h.1.1.1.1.1 i)) ∙ read_back b))
    (λ e. (ap kind_of e, (ap subject_of e, (ap version_of e, (ap template_in e, (ap service_in e, ap report_in e))))))
