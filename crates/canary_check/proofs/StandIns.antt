-- Metrics and templates that stand in for others, as the code makes them.
use Rattle.std.proofs.Common.{◌≡◌, ℕ, suc, ◌+◌, ◌<◌, List, [], ◌∷◌, length, drop, get_or, None, IsTrue, refl, sym, add-one}
use Rattle.std.proofs.Props.{props}
use mathlib.Core.HLevel.{is_prop→PathP}
use Rattle.std.proofs.Math.Seq.{drop-cons}
use Rattle.std.specs.FinMap as map
use Rattle.canary_plan.specs.declared.template_spec.MetricSpec.{MetricSpec}
use Rattle.canary_plan.specs.declared.template_spec.TemplateSpec.{TemplateSpec}
use Rattle.canary_plan.specs.Limits.{are_metric_limits, is_metric_count}
use Rattle.canary_plan.specs.Plans.{template_of}
use Rattle.canary_check.specs.Taken.{plain_metric, stand_in, Known, with_stand_ins}

-- the code's value has another proof of its limits
pub plain_is : (name : List ℕ) (delay : ℕ) (kept : IsTrue (are_metric_limits None None None None 0 0 4)) → delay ≡ 0
    → ◌≡◌ {A = MetricSpec} (record {
      name = name;
      success = None;
      failure = None;
      interval = None;
      initial_delay = delay;
      count = None;
      pass_after = None;
      failure_limit = 0;
      inconclusive_limit = 0;
      consecutive_error_limit = 4;
      within = kept;
    }) (plain_metric name)
plain_is name delay kept e = λ i.
    record {
      name = name;
      success = None;
      failure = None;
      interval = None;
      initial_delay = e i;
      count = None;
      pass_after = None;
      failure_limit = 0;
      inconclusive_limit = 0;
      consecutive_error_limit = 4;
      within = is_prop→PathP (λ j. IsTrue (are_metric_limits None None None None 0 0 4)) (λ j. hlevel props) kept refl i;
    }

pub stand_in_is : (name : List ℕ) (metrics : List MetricSpec) (dry_run : List (List ℕ)) (kept : IsTrue (is_metric_count (length metrics))) → metrics ≡ plain_metric name ∷ [] → dry_run ≡ []
    → ◌≡◌ {A = TemplateSpec} (record { name = name; metrics = metrics; dry_run = dry_run; within = kept }) (stand_in name)
stand_in_is name metrics dry_run kept e d = λ i.
    record {
      name = name;
      metrics = e i;
      dry_run = d i;
      within = is_prop→PathP (λ j. IsTrue (is_metric_count (length (e j)))) (λ j. hlevel props) kept refl i;
    }

-- one stand-in more
pub one_more : (known made : Known) (names : List (List ℕ)) (i : ℕ) (name : List ℕ) → name ≡ get_or names i name → i < length names
    → made ≡ map.insert known name (template_of (stand_in name) 1) → with_stand_ins known (drop i names) ≡ with_stand_ins made (drop (i + 1) names)
one_more known made names i name is within set =
    let front : drop i names ≡ get_or names i name ∷ drop (suc i) names = drop-cons names i name within in
    rw (front, sym is, add-one, set) refl
