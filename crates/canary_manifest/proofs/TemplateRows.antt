-- Worked AnalysisTemplate manifests, computed on the definitions.
use Rattle.std.proofs.Common.{◌≡◌, ℕ, List, [], ◌∷◌, Bool, true, false, Option, Some, None, refl}
use Rattle.std.specs.Prelude.{codes, option_map, option_and_then}
use Rattle.serde_json.specs.Read.{read}
use Rattle.serde_json.proofs.OnLiterals.{serde_json_on_literals}
use Rattle.canary_base.specs.Durations.{seconds_of}
use Rattle.canary_plan.specs.declared.template_spec.MetricSpec.{MetricSpec}
use Rattle.canary_plan.specs.declared.template_spec.TemplateSpec.{TemplateSpec}
use Rattle.canary_manifest.specs.Templates.{metric_of, template_of, is_unsupported_template}

abbrev template_in : List ℕ → Option TemplateSpec
template_in text = option_and_then template_of (read text)

abbrev metric_in : List ℕ → Option MetricSpec
metric_in text = option_and_then metric_of (read text)

abbrev is_unsupported : List ℕ → Option Bool
is_unsupported text = option_map is_unsupported_template (read text)

-- the defaults
abbrev plain : MetricSpec
plain = record {
  name = codes "m";
  success = None;
  failure = None;
  interval = None;
  initial_delay = 0;
  count = None;
  pass_after = None;
  failure_limit = 0;
  inconclusive_limit = 0;
  consecutive_error_limit = 4;
  within = refl;
}

-- ---- what a manifest says

as_kubectl_prints_it :
    template_in (codes "{\n    \"apiVersion\": \"argoproj.io/v1alpha1\",\n    \"kind\": \"AnalysisTemplate\",\n    \"metadata\": {\"managedFields\": [{\"manager\": \"kubectl\"}], \"name\": \"errors\"},\n    \"spec\": {\"args\": [{\"name\": \"host\"}], \"metrics\": [{\"name\": \"m\", \"provider\": {\"job\": {}}}]},\n    \"status\": {}\n}")
    ≡ Some (record { name = codes "errors"; metrics = plain ∷ []; dry_run = []; within = refl })
unfolding serde_json_on_literals template_of metric_of
as_kubectl_prints_it = refl

all_in_dry_run :
    template_in (codes "{\"metadata\":{\"name\":\"t\"},\"spec\":{\"metrics\":[{\"name\":\"m\"}],\"dryRun\":[{\"metricName\":\".*\"}]}}")
    ≡ Some (record { name = codes "t"; metrics = plain ∷ []; dry_run = codes ".*" ∷ []; within = refl })
unfolding serde_json_on_literals template_of metric_of
all_in_dry_run = refl

no_metric : template_in (codes "{\"metadata\":{\"name\":\"t\"},\"spec\":{\"metrics\":[]}}") ≡ None
unfolding serde_json_on_literals template_of metric_of
no_metric = refl

each_member :
    metric_in (codes "{\"name\":\"m\",\"successCondition\":\"a\",\"failureCondition\":\"b\",\"failureLimit\":1,\"inconclusiveLimit\":2,\"consecutiveErrorLimit\":3}")
    ≡ Some (record plain { success = Some (codes "a"); failure = Some (codes "b"); failure_limit = 1; inconclusive_limit = 2; consecutive_error_limit = 3; within = refl })
unfolding serde_json_on_literals metric_of
each_member = refl

null_or_empty_is_absent : metric_in (codes "{\"name\":\"m\",\"successCondition\":\"\",\"interval\":\"\",\"initialDelay\":null,\"count\":0,\"consecutiveErrorLimit\":null}") ≡ Some plain
unfolding serde_json_on_literals metric_of
null_or_empty_is_absent = refl

count_in_digits : metric_in (codes "{\"name\":\"m\",\"count\":\"05\"}") ≡ Some (record plain { count = Some 5; within = refl })
unfolding serde_json_on_literals metric_of
count_in_digits = refl

greatest_count : metric_in (codes "{\"name\":\"m\",\"count\":\"1000000\"}") ≡ Some (record plain { count = Some 1000000; within = refl })
unfolding serde_json_on_literals metric_of
greatest_count = refl

count_above_a_million : metric_in (codes "{\"name\":\"m\",\"count\":\"1000001\"}") ≡ None
unfolding serde_json_on_literals metric_of
count_above_a_million = refl

passes_in_a_number : metric_in (codes "{\"name\":\"m\",\"passAfter\":2}") ≡ Some (record plain { pass_after = Some 2; within = refl })
unfolding serde_json_on_literals metric_of
passes_in_a_number = refl

passes_in_digits : metric_in (codes "{\"name\":\"m\",\"passAfter\":\"02\"}") ≡ Some (record plain { pass_after = Some 2; within = refl })
unfolding serde_json_on_literals metric_of
passes_in_digits = refl

most_passes : metric_in (codes "{\"name\":\"m\",\"passAfter\":1000000}") ≡ Some (record plain { pass_after = Some 1000000; within = refl })
unfolding serde_json_on_literals metric_of
most_passes = refl

no_passes : metric_in (codes "{\"name\":\"m\",\"passAfter\":0}") ≡ Some plain
unfolding serde_json_on_literals metric_of
no_passes = refl

null_for_passes : metric_in (codes "{\"name\":\"m\",\"passAfter\":null}") ≡ Some plain
unfolding serde_json_on_literals metric_of
null_for_passes = refl

passes_above_a_million : metric_in (codes "{\"name\":\"m\",\"passAfter\":1000001}") ≡ None
unfolding serde_json_on_literals metric_of
passes_above_a_million = refl

passes_below_none : metric_in (codes "{\"name\":\"m\",\"passAfter\":-1}") ≡ None
unfolding serde_json_on_literals metric_of
passes_below_none = refl

count_with_a_sign : metric_in (codes "{\"name\":\"m\",\"count\":\"+5\"}") ≡ None
unfolding serde_json_on_literals metric_of
count_with_a_sign = refl

hour_and_a_half : metric_in (codes "{\"name\":\"m\",\"interval\":\"1h30m\",\"initialDelay\":\"5s\"}") ≡ Some (record plain { interval = Some 5400; initial_delay = 5; within = refl })
unfolding serde_json_on_literals metric_of seconds_of
hour_and_a_half = refl

interval_without_a_unit : metric_in (codes "{\"name\":\"m\",\"interval\":\"90\"}") ≡ None
unfolding serde_json_on_literals metric_of seconds_of
interval_without_a_unit = refl

-- ---- what the desk does not do

limit_below_0 : is_unsupported (codes "{\"spec\":{\"metrics\":[{\"failureLimit\":0},{\"failureLimit\":-1}]}}") ≡ Some true
unfolding serde_json_on_literals is_unsupported_template
limit_below_0 = refl

limit_below_0_in_digits : is_unsupported (codes "{\"spec\":{\"metrics\":[{\"failureLimit\":\"-1\"}]}}") ≡ Some true
unfolding serde_json_on_literals is_unsupported_template
limit_below_0_in_digits = refl

minus_0 : is_unsupported (codes "{\"spec\":{\"metrics\":[{\"failureLimit\":\"-0\"}]}}") ≡ Some false
unfolding serde_json_on_literals is_unsupported_template
minus_0 = refl

nothing_retained : is_unsupported (codes "{\"kind\":\"AnalysisTemplate\",\"spec\":{\"measurementRetention\":[],\"templates\":[]}}") ≡ Some false
unfolding serde_json_on_literals is_unsupported_template
nothing_retained = refl

measurements_retained : is_unsupported (codes "{\"spec\":{\"measurementRetention\":[{\"limit\":20}]}}") ≡ Some true
unfolding serde_json_on_literals is_unsupported_template
measurements_retained = refl

no_success_limit : is_unsupported (codes "{\"spec\":{\"metrics\":[{\"consecutiveSuccessLimit\":null}]}}") ≡ Some false
unfolding serde_json_on_literals is_unsupported_template
no_success_limit = refl

success_limit : is_unsupported (codes "{\"spec\":{\"metrics\":[{\"consecutiveSuccessLimit\":1}]}}") ≡ Some true
unfolding serde_json_on_literals is_unsupported_template
success_limit = refl

template_of_the_cluster : is_unsupported (codes "{\"kind\":\"ClusterAnalysisTemplate\"}") ≡ Some true
unfolding serde_json_on_literals is_unsupported_template
template_of_the_cluster = refl
