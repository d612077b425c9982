-- The strategy of a service, by the newest revisions of the templates that tables hold.
use Rattle.std.specs.Prelude.{◌≡◌, if◌then◌else◌, List, ℕ, None}
use Rattle.std.specs.List.{list_any}
use Rattle.std.specs.Str.{bytes_eq}
use Rattle.canary_plan.specs.declared.service.ServiceSpec.{ServiceSpec}
use Rattle.canary_plan.specs.declared.strategy.CheckedStrategy.{CheckedStrategy}
use Rattle.canary_plan.specs.Plans.{Templates, strategy_of}
use Rattle.canary_plan.specs.PlanRefusals.{strategy_refusal}
use Rattle.canary_release.specs.Desks.{newest}
use Rattle.canary_tables_rows.specs.Tables.{Tables}
use Rattle.canary_tables_contents.specs.Reading.{contents_of}

-- the newest revision of each template
abbrev pub newest_in : Tables → Templates
newest_in t = newest (contents_of t).desk.templates

-- those of the templates that have one of these names
abbrev pub known_among : Templates → List (List ℕ) → Templates
known_among known names name = if list_any (bytes_eq name) names then known name else None

-- nothing refuses it
abbrev pub IsStrategyAccepted : Tables → ServiceSpec → Type 0
IsStrategyAccepted t spec = strategy_refusal (newest_in t) spec ≡ None

-- nothing refuses it, and it is this
abbrev pub IsStrategyOf : Tables → ServiceSpec → CheckedStrategy → Type 0
IsStrategyOf t spec strategy = IsStrategyAccepted t spec × (strategy ≡ strategy_of spec)
