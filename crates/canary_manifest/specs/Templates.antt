-- AnalysisTemplate manifests of Argo Rollouts.
use Rattle.std.specs.Prelude.{ℕ, List, [], Bool, ◌||◌, Option, Some, None, codes}
use Rattle.std.specs.Option.{option_flatten}
use Rattle.serde_json.specs.Data.{Data}
use Rattle.canary_plan.specs.declared.template_spec.MetricSpec.{MetricSpec}
use Rattle.canary_plan.specs.declared.template_spec.TemplateSpec.{TemplateSpec}
use Rattle.canary_canonical.specs.Forms.{◌⊛◌, name_in, label_in, list_of}
use Rattle.canary_canonical.specs.Readings.{dry_run_name_in, metric_with, template_with}
use Rattle.canary_manifest.specs.declared.template.MetricLimits.{MetricLimits}
use Rattle.canary_manifest.specs.Members.{in_member, in_member_or, has, anything, limit_in, count_in, condition_in, duration_in, delay_in, is_other_text, is_no_empty_list, is_negative, some_item}

-- ---- what a manifest says

-- a metric, with its defaults
unfoldable pub metric_of : Data → Option MetricSpec
metric_of metric = option_flatten (Some metric_with
    ⊛ in_member (codes "name") label_in metric
    ⊛ in_member_or (codes "successCondition") None condition_in metric
    ⊛ in_member_or (codes "failureCondition") None condition_in metric
    ⊛ in_member_or (codes "interval") None duration_in metric
    ⊛ in_member_or (codes "initialDelay") 0 delay_in metric
    ⊛ in_member_or (codes "count") None count_in metric
    ⊛ in_member_or (codes "passAfter") None count_in metric
    ⊛ in_member_or (codes "failureLimit") 0 limit_in metric
    ⊛ in_member_or (codes "inconclusiveLimit") 0 limit_in metric
    ⊛ in_member_or (codes "consecutiveErrorLimit") 4 limit_in metric)

-- its times, its counts and its limits
abbrev pub numbers_with : Option ℕ → ℕ → Option ℕ → Option ℕ → ℕ → ℕ → ℕ → MetricLimits
numbers_with interval delay count passes failed inconclusive errors =
    record {
      interval = interval;
      delay = delay;
      count = count;
      passes = passes;
      failed = failed;
      inconclusive = inconclusive;
      errors = errors;
    }

-- what becomes of a metric by them
abbrev pub metric_by : (Option ℕ → ℕ → Option ℕ → Option ℕ → ℕ → ℕ → ℕ → Option MetricSpec)
    → MetricLimits
    → Option MetricSpec
metric_by w x = w x.interval x.delay x.count x.passes x.failed x.inconclusive x.errors

abbrev pub numbers_of : Data → Option MetricLimits
numbers_of metric = Some numbers_with
    ⊛ in_member_or (codes "interval") None duration_in metric
    ⊛ in_member_or (codes "initialDelay") 0 delay_in metric
    ⊛ in_member_or (codes "count") None count_in metric
    ⊛ in_member_or (codes "passAfter") None count_in metric
    ⊛ in_member_or (codes "failureLimit") 0 limit_in metric
    ⊛ in_member_or (codes "inconclusiveLimit") 0 limit_in metric
    ⊛ in_member_or (codes "consecutiveErrorLimit") 4 limit_in metric

-- the name of a metric that is dry-run, or `.*`
abbrev pub dry_run_name : Data → Option (List ℕ)
dry_run_name = in_member (codes "metricName") dry_run_name_in

unfoldable pub template_of : Data → Option TemplateSpec
template_of manifest = option_flatten (Some template_with
    ⊛ in_member (codes "metadata") (in_member (codes "name") name_in) manifest
    ⊛ in_member (codes "spec") (in_member (codes "metrics") (list_of metric_of)) manifest
    ⊛ in_member (codes "spec") (in_member_or (codes "dryRun") [] (list_of dry_run_name)) manifest)

-- ---- what the desk does not do

abbrev pub is_unsupported_metric : Data → Bool
is_unsupported_metric metric =
    has (codes "consecutiveSuccessLimit") anything metric
    || has (codes "failureLimit") is_negative metric

abbrev pub is_unsupported_analysis_spec : Data → Bool
is_unsupported_analysis_spec spec =
    has (codes "templates") is_no_empty_list spec
    || has (codes "measurementRetention") is_no_empty_list spec
    || has (codes "metrics") (some_item is_unsupported_metric) spec

unfoldable pub is_unsupported_template : Data → Bool
is_unsupported_template manifest =
    has (codes "kind") (is_other_text (codes "AnalysisTemplate")) manifest
    || has (codes "spec") is_unsupported_analysis_spec manifest
