-- What is found of services.
use Rattle.std.proofs.Common.{◌≡◌, ℕ, List, filter, true, Option, Some, None, option_map, sym, ap, subst, ◌∙◌}
use Rattle.std.specs.Prelude.{option_and_then}
use Rattle.sqlite.specs.State.{State}
use Rattle.canary_plan.specs.declared.bound.BoundParts.{BoundParts}
use Rattle.canary_plan.specs.declared.service.ServiceSpec.{ServiceSpec}
use Rattle.canary_plan.specs.declared.strategy.CheckedStrategy.{CheckedStrategy}
use Rattle.canary_plan.specs.Plans.{Templates, strategy_of, bound_of}
use Rattle.canary_canonical.specs.Readings.{canonical_in}
use Rattle.canary_release.specs.declared.runs.OpenRun.{OpenRun}
use Rattle.canary_release.specs.declared.service.ServiceParts.{ServiceParts}
use Rattle.canary_release.specs.declared.state.ServiceState.{ServiceState}
use Rattle.canary_release.specs.Parts.{is_broken}
use Rattle.canary_release.specs.Stored.{stored_service}
use Rattle.canary_once.specs.Contents.{Contents}
use Rattle.canary_tables_rows.specs.declared.rows.ServiceRow.{ServiceRow}
use Rattle.canary_tables_rows.specs.Tables.{Tables, is_service}
use Rattle.canary_tables_schema.specs.Cells.{tables_in}
use Rattle.canary_tables_schema.specs.Stores.{IsUsable, Stores}
use Rattle.canary_tables_contents.specs.Finding.{open_runs_by, parts_standing, parts_made, parts_of_row}
use Rattle.canary_tables_contents.specs.Laws.{ServicesAreFound}
use Rattle.canary_tables_contents.specs.Reading.{known_in}
use Rattle.canary_tables_contents.specs.Values.{made_from, stand_of}
use Rattle.canary_tables_read.specs.Finds.{IsSame, first}
use Rattle.canary_tables.specs.Desk.{IsDesk, contents_in}
use Rattle.canary_tables.proofs.Standing.{contents_stay, tables_stay, same_then}

-- if there is no row there is no service
pub no_service : (old new : State) (name : List ℕ) → ServicesAreFound → (IsUsable old → IsDesk old) → IsSame old new → IsUsable new → ((t : Tables) → Stores old t → None ≡ first (filter (is_service name) t.services))
    → None ≡ stored_service (contents_in old).desk name
no_service old new name law desk same usable read =
    let d = desk (same usable).0 in
    ap (option_and_then (parts_of_row (known_in (tables_in old.now) name 0) (open_runs_by (contents_in old) name))) (read _ d.stores) ∙ (law _ d.holds name).value

-- the row that is there is the service, with its strategy, what it is bound to, and its open runs
pub service_told : (old shown planned new : State) (name : List ℕ) (row : ServiceRow) (made : ServiceSpec) (strategy : CheckedStrategy) (bound : BoundParts) (open_runs : List OpenRun) (told : ServiceParts) → ServicesAreFound → (IsUsable old → IsDesk old)
    → IsSame old shown → IsSame shown planned → IsSame planned new → IsUsable new → (IsUsable shown → (t : Tables) → Stores old t → Some row ≡ first (filter (is_service name) t.services))
    → made_from (canonical_in row.spec) ≡ Some made → strategy ≡ strategy_of made → (IsUsable planned → bound ≡ bound_of (known_in (tables_in shown.now) name 0) (strategy_of made)) → open_runs ≡ open_runs_by (contents_in planned) name bound
    → option_map (parts_standing row open_runs) (stand_of row.name strategy bound row.standing) ≡ Some told → Some told ≡ stored_service (contents_in old).desk name
service_told old shown planned new name row made strategy bound open_runs told law desk first_same second_same third_same usable read made_is own bound_is are is =
    let after_plan = (third_same usable).0 in
    let after_row = (second_same after_plan).0 in
    let d = desk (first_same after_row).0 in
    let c = contents_in old in
    let cached : Templates = known_in (tables_in old.now) name 0 in
    let opens : BoundParts → List OpenRun = open_runs_by c name in
    let to : bound ≡ bound_of cached (strategy_of made) = bound_is after_plan ∙ ap (λ (t : Tables). bound_of (known_in t name 0) (strategy_of made)) (tables_stay old shown first_same after_row) in
    let runs : open_runs ≡ opens bound = are ∙ ap (λ (k : Contents). open_runs_by k name bound) (contents_stay old planned (same_then old shown planned first_same second_same) after_plan) in
    sym is
    ∙ ap (λ (rs : List OpenRun). option_map (parts_standing row rs) (stand_of row.name strategy bound row.standing)) runs
    ∙ ap (λ (s : CheckedStrategy). option_map (parts_standing row (opens bound)) (stand_of row.name s bound row.standing)) own
    ∙ ap (λ (b : BoundParts). option_map (parts_standing row (opens b)) (stand_of row.name (strategy_of made) b row.standing)) to
    ∙ sym (ap (option_and_then (parts_made cached opens row)) made_is)
    ∙ ap (option_and_then (parts_of_row cached opens)) (read after_row _ d.stores)
    ∙ (law _ d.holds name).value

-- the parts that a row stands for are those of its stand
pub parts_broken : (row : ServiceRow) (open_runs : List OpenRun) (o : Option ServiceState) (service : ServiceState) (parts : ServiceParts) → o ≡ Some service → is_broken (parts_standing row open_runs service) ≡ true → option_map (parts_standing row open_runs) o ≡ Some parts → is_broken parts ≡ true
parts_broken row open_runs o service parts is broken same =
    let made : Some (parts_standing row open_runs service) ≡ Some parts = sym (ap (option_map (parts_standing row open_runs)) is) ∙ same in
    let here : parts_standing row open_runs service ≡ parts = one made in subst (λ (p : ServiceParts). is_broken p ≡ true) here broken
  where
    one : {x y : ServiceParts} → Some x ≡ Some y → x ≡ y
    one e = cc
