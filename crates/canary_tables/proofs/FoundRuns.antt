-- What is found of runs.
use Rattle.std.proofs.Common.{◌≡◌, ◌+◌, ◌<◌, ◌≤◌, ℕ, List, [], ◌∷◌, ◌++◌, map, filter, take, length, get_or, Option, Some, None, option_map, sym, ap, ◌∙◌}
use Rattle.std.specs.Prelude.{option_and_then}
use Rattle.std.proofs.lemmas.List.{take_more, take_all, map-append}
use Rattle.sqlite.specs.State.{State}
use Rattle.canary_metric.specs.Counts.{Counts}
use Rattle.canary_plan.specs.declared.bound.BoundParts.{BoundParts}
use Rattle.canary_plan.specs.declared.service.ServiceSpec.{ServiceSpec}
use Rattle.canary_plan.specs.Plans.{strategy_of, bound_of, analysis_or_none}
use Rattle.canary_canonical.specs.Readings.{canonical_in}
use Rattle.canary_release.specs.declared.runs.OpenRun.{OpenRun}
use Rattle.canary_once.specs.declared.record.RunRecord.{RunRecord}
use Rattle.canary_once.specs.Contents.{Contents}
use Rattle.canary_once.specs.Records.{run_of}
use Rattle.canary_tables_rows.specs.declared.rows.RunRow.{RunRow}
use Rattle.canary_tables_rows.specs.declared.rows.ServiceRow.{ServiceRow}
use Rattle.canary_tables_rows.specs.declared.rows.TallyRow.{TallyRow}
use Rattle.canary_tables_rows.specs.Tables.{Tables, is_service, is_run, is_open_run_of, is_tally_of}
use Rattle.canary_tables_schema.specs.Cells.{tables_in}
use Rattle.canary_tables_schema.specs.Stores.{IsUsable, Stores}
use Rattle.canary_tables_contents.specs.Values.{made_from}
use Rattle.canary_tables_contents.specs.Reading.{known_in}
use Rattle.canary_tables_contents.specs.Finding.{strategy_by, analysis_by, tallies_of, record_of_row, open_run_of, open_runs_by}
use Rattle.canary_tables_contents.specs.Laws.{TalliesAreFound, RunsAreFound, RunsHaveServices, OpenRunsAreFound}
use Rattle.canary_tables_read.specs.Finds.{IsSame, first}
use Rattle.canary_tables_read.specs.Sorts.{Sorts, number_of, metric_of}
use Rattle.canary_tables.specs.Desk.{IsDesk, IsMadeBy, contents_in}
use Rattle.canary_tables.proofs.Standing.{contents_stay, tables_stay, same_then}

-- the counts of the rows are the tallies
pub tallies_told : (old new : State) (name : List ℕ) (number : ℕ) (rows shown : List TallyRow) (found : List Counts) → TalliesAreFound → (IsUsable old → IsDesk old) → IsSame old new → IsUsable new
    → ((t : Tables) → Stores old t → Sorts metric_of (filter (is_tally_of name number) t.tallies) rows) → shown ≡ rows → found ≡ map (λ (row : TallyRow). row.counts) shown → found ≡ tallies_of (contents_in old) name number
tallies_told old new name number rows shown found law desk same usable read are is =
    let d = desk (same usable).0 in
    let sorted = read _ d.stores in
    is ∙ ap (map (λ (row : TallyRow). row.counts)) are ∙ law _ d.holds name number rows sorted.same sorted.ascend

-- if there is no service there is no run
pub no_service : (old new : State) (name : List ℕ) (number : ℕ) → RunsHaveServices → (IsUsable old → IsDesk old) → IsSame old new → IsUsable new → ((t : Tables) → Stores old t → None ≡ first (filter (is_service name) t.services)) → None ≡ run_of (contents_in old) name number
no_service old new name number law desk same usable read =
    let d = desk (same usable).0 in sym (law _ d.holds name number (sym (read _ d.stores)))

-- the row that is there says how the service was asked for
pub made_by : (old new : State) (name : List ℕ) (row : ServiceRow) (made : ServiceSpec) → (IsUsable old → IsDesk old) → IsSame old new → IsUsable new → ((t : Tables) → Stores old t → Some row ≡ first (filter (is_service name) t.services)) → made_from (canonical_in row.spec) ≡ Some made
    → IsMadeBy new name made
made_by old new name row made desk same usable read is =
    let d = desk (same usable).0 in
    ap (λ (t : Tables). strategy_by (first (filter (is_service name) t.services))) (tables_stay old new same usable) ∙ sym (ap strategy_by (read _ d.stores)) ∙ ap (option_map strategy_of) is

-- the run is reported as after the row of its service was read
pub run_before : (old new : State) (name : List ℕ) (number asked : ℕ) (found : Option RunRecord) → IsSame old new → IsUsable new → found ≡ run_of (contents_in new) name asked → asked ≡ number → found ≡ run_of (contents_in old) name number
run_before old new name number asked found same usable told is =
    told ∙ ap (λ (c : Contents). run_of c name asked) (contents_stay old new same usable) ∙ ap (run_of (contents_in old) name) is

-- if there is no row there is no run
pub no_run : (old new : State) (name : List ℕ) (number : ℕ) (made : ServiceSpec) → RunsAreFound → (IsUsable old → IsDesk old) → IsMadeBy old name made → IsSame old new → IsUsable new → ((t : Tables) → Stores old t → None ≡ first (filter (is_run name number) t.runs))
    → None ≡ run_of (contents_in old) name number
no_run old new name number made law desk by same usable read =
    let d = desk (same usable).0 in
    let t : Tables = tables_in old.now in
    ap (option_and_then (λ (row : RunRow). record_of_row (analysis_by t (strategy_of made) row) (tallies_of (contents_in old) name number) row)) (read _ d.stores) ∙ (law t d.holds name number (strategy_of made) by).value

-- the row that is there is the run, with its analysis and its tallies
pub run_told : (old shown counted new : State) (name : List ℕ) (number : ℕ) (made : ServiceSpec) (row : RunRow) (tallies : List Counts) (bound : BoundParts) (told : RunRecord) → RunsAreFound → (IsUsable old → IsDesk old) → IsMadeBy old name made
    → IsSame old shown → IsSame shown counted → IsSame counted new → IsUsable new → (IsUsable shown → (t : Tables) → Stores old t → Some row ≡ first (filter (is_run name number) t.runs)) → (IsUsable counted → tallies ≡ tallies_of (contents_in shown) name number)
    → bound ≡ bound_of (known_in (tables_in counted.now) row.service row.number) (strategy_of made) → record_of_row (analysis_or_none bound row.step) tallies row ≡ Some told → Some told ≡ run_of (contents_in old) name number
run_told old shown counted new name number made row tallies bound told law desk by first_same second_same third_same usable read are bound_is is =
    let after_tallies = (third_same usable).0 in
    let after_row = (second_same after_tallies).0 in
    let d = desk (first_same after_row).0 in
    let t : Tables = tables_in old.now in
    let c = contents_in old in
    let all : tallies ≡ tallies_of c name number = are after_tallies ∙ ap (λ (k : Contents). tallies_of k name number) (contents_stay old shown first_same after_row) in
    let to : bound ≡ bound_of (known_in t row.service row.number) (strategy_of made) =
    bound_is ∙ ap (λ (u : Tables). bound_of (known_in u row.service row.number) (strategy_of made)) (tables_stay old counted (same_then old shown counted first_same second_same) after_tallies) in
    sym is
    ∙ (λ i. record_of_row (analysis_or_none (to i) row.step) (all i) row)
    ∙ ap (option_and_then (λ (r : RunRow). record_of_row (analysis_by t (strategy_of made) r) (tallies_of c name number) r)) (read after_row t d.stores)
    ∙ (law t d.holds name number (strategy_of made) by).value

-- Open runs.

-- the open runs of the first rows are found
pub record RunsSoFar (bound : BoundParts) (name : List ℕ) (rows : List RunRow) (i : ℕ) (old now : State) (found : List OpenRun) : Type 0 where
  pub same : IsSame old now
  pub value : IsUsable now → found ≡ map (open_run_of bound (contents_in old) name) (take i rows)

pub run_more : (bound : BoundParts) (name : List ℕ) (rows : List RunRow) (i : ℕ) (old between new : State) (found more : List OpenRun) (row : RunRow) (one : OpenRun) → i < length rows → row ≡ get_or rows i row → RunsSoFar bound name rows i old between found
    → IsSame between new → (IsUsable new → one ≡ open_run_of bound (contents_in between) name row) → more ≡ found ++ one ∷ [] → RunsSoFar bound name rows (i + 1) old new more
run_more bound name rows i old between new found more row one below at before same is pushed =
    record {
      same = same_then old between new before.same same;
      value = λ usable.
          let midway = (same usable).0 in
          let this : one ≡ open_run_of bound (contents_in old) name row = is usable ∙ ap (λ (c : Contents). open_run_of bound c name row) (contents_stay old between before.same midway) in
          let f = open_run_of bound (contents_in old) name in
          pushed
          ∙ ap (λ (xs : List OpenRun). xs ++ one ∷ []) (before.value midway)
          ∙ ap (λ (x : OpenRun). map f (take i rows) ++ x ∷ []) this
          ∙ sym (ap (map f) (take_more rows i row below ∙ ap (λ (r : RunRow). take i rows ++ r ∷ []) (sym at)) ∙ map-append f (take i rows) (row ∷ []));
    }

pub runs_done : (bound : BoundParts) (name : List ℕ) (rows : List RunRow) (i : ℕ) (old now : State) (found : List OpenRun) → RunsSoFar bound name rows i old now found → length rows ≤ i → IsUsable now → found ≡ map (open_run_of bound (contents_in old) name) rows
runs_done bound name rows i old now found so_far all usable = so_far.value usable ∙ ap (map (open_run_of bound (contents_in old) name)) (take_all i rows all)

-- they are those of the service, each of the analysis that is bound at its step
pub open_runs_told : (old between new : State) (bound : BoundParts) (name : List ℕ) (rows shown : List RunRow) (found : List OpenRun) → OpenRunsAreFound → (IsUsable old → IsDesk old) → IsSame old between → IsSame between new → IsUsable new
    → (IsUsable between → (t : Tables) → Stores old t → Sorts number_of (filter (is_open_run_of name) t.runs) rows) → shown ≡ rows → found ≡ map (open_run_of bound (contents_in between) name) shown
    → found ≡ open_runs_by (contents_in old) name bound
open_runs_told old between new bound name rows shown found law desk first_same second_same usable read are is =
    let midway = (second_same usable).0 in
    let d = desk (first_same midway).0 in
    let sorted = read midway _ d.stores in
    is
    ∙ ap (λ (c : Contents). map (open_run_of bound c name) shown) (contents_stay old between first_same midway)
    ∙ ap (map (open_run_of bound (contents_in old) name)) are
    ∙ law _ d.holds name bound rows sorted.same sorted.ascend
