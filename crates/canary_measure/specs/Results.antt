-- What is reported under a label of what was measured.
use Rattle.std.specs.Prelude.{ℕ, List, ◌⊎◌}
use Rattle.canary_condition.specs.declared.outcome.Outcome.{Outcome}
use Rattle.canary_condition.specs.declared.outcome.Outcome.TheVariants.{Result as ResultOf, Failure}
use Rattle.canary_condition.specs.declared.outcome.Value.{Value}
use Rattle.canary_condition.specs.Results.{IsResult}
use Rattle.canary_decimal.specs.declared.shown.Units.{Units}
use Rattle.canary_decimal.specs.Endings.{IsLabelOf}
use Rattle.canary_argo.specs.declared.form.Form.{Form}
use Rattle.canary_argo.specs.Meaning.{Measured}
use Rattle.canary_argo.specs.Reporting.{IsReported}
use Rattle.canary_measure.specs.Labelled.{IsLabelIn}
use Rattle.canary_measure.specs.Wholes.{IsWhole}

-- the label has a form, and in it the value is reported of what was measured
abbrev pub IsInForm : List ℕ → Measured → Value → Type 0
IsInForm label m v =
    (name : List ℕ) × (form : Form) × IsLabelIn label name form × IsReported form m v

-- people read the numbers under this label as they stand
abbrev pub HasNoEnding : List ℕ → Type 0
HasNoEnding label = (name : List ℕ) (units : Units) → IsLabelOf label name units → ⊥

-- a whole number, if the label has no ending
abbrev pub IsAsItStands : List ℕ → Measured → Value → Type 0
IsAsItStands label m v = HasNoEnding label × IsWhole m v

-- What is reported under a label: in its form; or a whole number as it stands, if it has no ending.
-- Under an ending that is of no form nothing is reported.
abbrev pub IsUnder : List ℕ → Measured → Value → Type 0
IsUnder label m v = IsInForm label m v ⊎ IsAsItStands label m v

-- a result is what is reported under the label, and a failure comes only if there is no result
abbrev pub IsOutcomeOf : List ℕ → Measured → Outcome → Type 0
IsOutcomeOf label m (ResultOf v) = IsUnder label m v
IsOutcomeOf label m (Failure text) = (v : Value) → IsResult v → IsUnder label m v → ⊥
