-- Rollout manifests of Argo Rollouts.
use Rattle.std.specs.Prelude.{ℕ, List, [], Bool, false, not, ◌&&◌, ◌||◌, Option, Some, None, option_map, is_some, unwrap_or, codes}
use Rattle.std.specs.Str.{bytes_eq}
use Rattle.canary_plan.specs.declared.step.Step.{Step}
use Rattle.canary_plan.specs.declared.step.Step.TheVariants.{SetWeight, Pause, Analysis}
use Rattle.canary_plan.specs.declared.service.Background.{Background}
use Rattle.serde_json.specs.Data.{Data, Members, no_members, member}
use Rattle.serde_json.specs.Find.{as_object}
use Rattle.canary_canonical.specs.Forms.{◌⊛◌, name_in, list_of}
use Rattle.canary_canonical.specs.Readings.{weight_in, starting_step_in, background_with}
use Rattle.canary_manifest.specs.Members.{unless_null, member_of, in_member, in_member_or, in_object, has, anything, pause_seconds, is_true, is_other_text, is_no_empty_list, some_item}

-- ---- what a manifest says

abbrev pub rollout_name : Data → Option (List ℕ)
rollout_name manifest = in_member (codes "metadata") (in_member (codes "name") name_in) manifest

-- an object; without a duration the pause lasts until the release is promoted
abbrev pub pause_in : Data → Option (Option ℕ)
pause_in =
    in_object
    (in_member_or (codes "duration") None (λ value. option_map Some (pause_seconds value)))

-- the names of the templates of an analysis
abbrev pub templates_in : Data → Option (List (List ℕ))
templates_in = in_member (codes "templates") (list_of (in_member (codes "templateName") name_in))

-- exactly one of the three is there
abbrev pub only_step : Option Data → Option Data → Option Data → Option Step
only_step (Some weight) None None = option_map SetWeight (weight_in weight)
only_step None (Some pause) None = option_map Pause (pause_in pause)
only_step None None (Some analysis) = option_map Analysis (templates_in analysis)
only_step weight pause analysis = None

unfoldable pub step_in : Data → Option Step
step_in step =
    only_step (member_of (codes "setWeight") step) (member_of (codes "pause") step)
    (member_of (codes "analysis") step)

-- the analysis beside the steps
unfoldable pub background_in : Data → Option Background
background_in analysis = Some background_with
    ⊛ templates_in analysis
    ⊛ in_member_or (codes "startingStep") 0 starting_step_in analysis

abbrev pub canary_steps : Data → Option (List Step)
canary_steps = in_object (in_member_or (codes "steps") [] (list_of step_in))

abbrev pub canary_background : Data → Option (Option Background)
canary_background =
    in_object
    (in_member_or (codes "analysis") None (λ value. option_map Some (background_in value)))

-- what the form gives of the canary strategy
abbrev pub in_canary : {A : Type 0} → (Data → Option A) → Data → Option A
in_canary form =
    in_member (codes "spec") (in_member (codes "strategy") (in_member (codes "canary") form))

-- ---- what the desk does not do

abbrev pub is_unsupported_analysis : Data → Bool
is_unsupported_analysis analysis =
    has (codes "dryRun") is_no_empty_list analysis
    || has (codes "measurementRetention") is_no_empty_list analysis
    || has (codes "templates") (some_item (has (codes "clusterScope") is_true)) analysis

abbrev pub is_step_key : List ℕ → Bool
is_step_key key =
    bytes_eq key (codes "setWeight") || bytes_eq key (codes "pause")
    || bytes_eq key (codes "analysis")

-- a member of another key, not null
abbrev pub any_other : Members → Bool
any_other no_members = false
any_other (member key value rest) =
    (not (is_step_key key) && is_some (unless_null value)) || any_other rest

abbrev pub has_other_member : Data → Bool
has_other_member step = unwrap_or (option_map any_other (as_object step)) false

unfoldable pub is_unsupported_step : Data → Bool
is_unsupported_step step =
    has_other_member step || has (codes "analysis") is_unsupported_analysis step

abbrev pub is_unsupported_canary : Data → Bool
is_unsupported_canary canary =
    has (codes "steps") (some_item is_unsupported_step) canary
    || has (codes "analysis") is_unsupported_analysis canary

abbrev pub is_unsupported_strategy : Data → Bool
is_unsupported_strategy strategy =
    has (codes "blueGreen") anything strategy || has (codes "canary") is_unsupported_canary strategy

abbrev pub is_unsupported_spec : Data → Bool
is_unsupported_spec spec =
    has (codes "paused") is_true spec || has (codes "strategy") is_unsupported_strategy spec

unfoldable pub is_unsupported_rollout : Data → Bool
is_unsupported_rollout manifest =
    has (codes "kind") (is_other_text (codes "Rollout")) manifest
    || has (codes "spec") is_unsupported_spec manifest
