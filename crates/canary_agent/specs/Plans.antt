-- Which metric a run of the desk calls by a label.
use Rattle.std.specs.Prelude.{◌≡◌, ◌⊎◌, ℕ, List, Contains, string_bytes}
use Rattle.canary_argo.specs.declared.form.Form.{Form}
use Rattle.canary_measure.specs.Labelled.{IsLabelIn}
use Rattle.canary_agent.specs.declared.plan.PlannedMetric.{PlannedMetric}
use Rattle.canary_agent.specs.declared.plan.Served.{Served}

-- a label is this name with the ending of a form
abbrev pub IsNamed : List ℕ → List ℕ → Type 0
IsNamed label name = (form : Form) × IsLabelIn label name form

-- it has the label, or the label is its name in the manifest with the ending of a form
abbrev pub IsOf : PlannedMetric → List ℕ → Type 0
IsOf metric label = (label ≡ metric.label) ⊎ IsNamed label (string_bytes metric.name)

-- the plan has a metric of that label
abbrev pub IsPlanned : Served → List ℕ → Type 0
IsPlanned served label =
    (metric : PlannedMetric) × Contains served.metrics.items metric × IsOf metric label
