-- Worked commands, computed on the definitions, so that a wrong rule in a definition does not check.
use Rattle.std.proofs.Common.{◌≡◌, ℕ, List, [], ◌∷◌, Option, Some, None, true, false, refl, pos, negsuc, IsTrue}
use Rattle.std.specs.Prelude.{codes}
use Rattle.canary_condition.specs.declared.outcome.Outcome.{Outcome}
use Rattle.canary_condition.specs.declared.outcome.Outcome.TheVariants.{Result as Brought, Failure}
use Rattle.canary_condition.specs.declared.outcome.Value.TheVariants.{Whole, List as ListResult}
use Rattle.canary_plan.specs.declared.step.Step.{Step}
use Rattle.canary_plan.specs.declared.step.Step.TheVariants.{SetWeight, Pause, Analysis}
use Rattle.canary_plan.specs.declared.service.Background.{Background}
use Rattle.canary_plan.specs.declared.template_spec.MetricSpec.{MetricSpec}
use Rattle.canary_plan.specs.declared.command.Command.{Command}
use Rattle.canary_plan.specs.declared.command.Command.TheVariants as command
use Rattle.canary_plan.specs.Limits.{are_metric_limits}
use Rattle.canary_plan.specs.Commands.{same_command, subject_of, names_looked_up}

-- What is asked for in the rows.

abbrev web : List ℕ
web = codes "web"

abbrev v2 : List ℕ
v2 = codes "v2"

-- a metric that succeeds if this holds, with this limit of failures
abbrev metric : (success : List ℕ) (limit : ℕ) → IsTrue (are_metric_limits (Some success) None (Some 5) None limit 0 4) → MetricSpec
metric success limit within =
    record {
      name = codes "errors";
      success = Some success;
      failure = None;
      interval = Some 60;
      initial_delay = 0;
      count = Some 5;
      pass_after = None;
      failure_limit = limit;
      inconclusive_limit = 0;
      consecutive_error_limit = 4;
      within = within;
    }

-- a template of one metric
abbrev template : MetricSpec → List (List ℕ) → Command
template m dry_run = command.Template (record { name = codes "latency"; metrics = m ∷ []; dry_run = dry_run; within = refl })

abbrev service : List Step → Option Background → Command
service steps background = command.Service (record { name = web; version = v2; steps = steps; background = background })

-- a report of one measurement of run 3
abbrev report : Outcome → Command
report outcome = command.Report (record { service = web; run = 3; entries = record { metric = codes "errors"; ordinal = 1; taken = 1000; outcome = outcome; within = refl } ∷ []; within = refl })

abbrev background : ℕ → Option Background
background step = Some (record { templates = codes "errors" ∷ []; starting_step = step })

-- Kinds and names.

same_start : same_command (command.Start web v2) (command.Start web v2) ≡ true
same_start = refl

-- under one number, another version is another command
other_version : same_command (command.Start web v2) (command.Start web (codes "v3")) ≡ false
other_version = refl

abort_is_no_retry : same_command (command.Abort web) (command.Retry web) ≡ false
abort_is_no_retry = refl

promote_is_not_full : same_command (command.Promote web) (command.PromoteFull web) ≡ false
promote_is_not_full = refl

same_tick : same_command (command.Tick web) (command.Tick web) ≡ true
same_tick = refl

subject : subject_of (report (Failure (codes "timeout"))) ≡ web
subject = refl

subject_of_template : subject_of (template (metric (codes "result < 1") 0 refl) []) ≡ codes "latency"
subject_of_template = refl

-- Templates.

same_template_again : same_command (template (metric (codes "result < 1") 0 refl) []) (template (metric (codes "result < 1") 0 refl) []) ≡ true
same_template_again = refl

-- conditions are compared as they are written, not as they are read
spaces_count : same_command (template (metric (codes "result < 1") 0 refl) []) (template (metric (codes "result<1") 0 refl) []) ≡ false
spaces_count = refl

other_limit : same_command (template (metric (codes "result < 1") 0 refl) []) (template (metric (codes "result < 1") 1 refl) []) ≡ false
other_limit = refl

dry_run_counts : same_command (template (metric (codes "result < 1") 0 refl) []) (template (metric (codes "result < 1") 0 refl) (codes ".*" ∷ [])) ≡ false
dry_run_counts = refl

-- Services.

same_steps_again : same_command (service (SetWeight 20 ∷ Pause None ∷ []) (background 1)) (service (SetWeight 20 ∷ Pause None ∷ []) (background 1)) ≡ true
same_steps_again = refl

order_counts : same_command (service (Pause None ∷ SetWeight 20 ∷ []) None) (service (SetWeight 20 ∷ Pause None ∷ []) None) ≡ false
order_counts = refl

a_pause_of_no_time : same_command (service (Pause (Some 60) ∷ []) None) (service (Pause None ∷ []) None) ≡ false
a_pause_of_no_time = refl

other_starting_step : same_command (service [] (background 0)) (service [] (background 1)) ≡ false
other_starting_step = refl

-- a background from step 0 on is not none at all
no_background : same_command (service [] (background 0)) (service [] None) ≡ false
no_background = refl

-- Reports.

same_report_again : same_command (report (Brought (ListResult (pos 1 ∷ negsuc 1 ∷ [])))) (report (Brought (ListResult (pos 1 ∷ negsuc 1 ∷ [])))) ≡ true
same_report_again = refl

other_sign : same_command (report (Brought (Whole (pos 2)))) (report (Brought (Whole (negsuc 1)))) ≡ false
other_sign = refl

-- a number is not the list of it
number_is_no_list : same_command (report (Brought (Whole (pos 2)))) (report (Brought (ListResult (pos 2 ∷ [])))) ≡ false
number_is_no_list = refl

other_failure : same_command (report (Failure (codes "timeout"))) (report (Failure (codes "refused"))) ≡ false
other_failure = refl

-- Which templates are looked up.

own_name : names_looked_up None (template (metric (codes "result < 1") 0 refl) []) ≡ codes "latency" ∷ []
own_name = refl

-- a name as often as it stands there, the background's last
all_names_in_order :
    names_looked_up None (service (Analysis (codes "b" ∷ codes "a" ∷ []) ∷ SetWeight 20 ∷ Analysis (codes "a" ∷ []) ∷ []) (background 1))
    ≡ codes "b" ∷ codes "a" ∷ codes "a" ∷ codes "errors" ∷ []
all_names_in_order = refl

-- an attempt looks up those of the service's strategy
of_a_start : names_looked_up (Some (record { steps = SetWeight 20 ∷ Analysis (codes "a" ∷ []) ∷ []; background = background 1 })) (command.Start web v2) ≡ codes "a" ∷ codes "errors" ∷ []
of_a_start = refl

of_a_retry : names_looked_up (Some (record { steps = Analysis (codes "a" ∷ []) ∷ []; background = None })) (command.Retry web) ≡ codes "a" ∷ []
of_a_retry = refl

of_no_service : names_looked_up None (command.Start web v2) ≡ []
of_no_service = refl

of_a_promotion : names_looked_up (Some (record { steps = Analysis (codes "a" ∷ []) ∷ []; background = None })) (command.Promote web) ≡ []
of_a_promotion = refl
