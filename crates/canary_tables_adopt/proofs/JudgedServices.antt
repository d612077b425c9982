-- What is judged of services, from what is read of them.
use Rattle.std.proofs.Common.{◌≡◌, ◌+◌, ℕ, zero, suc, List, [], ◌∷◌, length, map, Bool, false, Option, Some, None, refl, sym, ap, ◌∙◌, subst, arith}
use Rattle.std.specs.Prelude.{filter, slice_get}
use Rattle.std.specs.List.{sum_by}
use Rattle.std.proofs.lemmas.List.Sums.{sum_by-cons}
use Rattle.canary_plan.specs.declared.bound.BoundParts.{BoundParts}
use Rattle.canary_plan.specs.declared.service.ServiceSpec.{ServiceSpec}
use Rattle.canary_plan.specs.declared.strategy.CheckedStrategy.{CheckedStrategy}
use Rattle.canary_plan.specs.Plans.{strategy_of, bound_of, all_revisions, distinct}
use Rattle.canary_plan.specs.PlanRefusals.{strategy_refusal}
use Rattle.canary_canonical.specs.Readings.{canonical_in}
use Rattle.canary_release.specs.declared.state.ServiceState.{ServiceState}
use Rattle.canary_release.specs.declared.state.ReleaseState.{ReleaseState}
use Rattle.canary_release.specs.Parts.{is_broken}
use Rattle.canary_once.specs.declared.record.RunRecord.{RunRecord}
use Rattle.canary_tables_rows.specs.declared.rows.BindingRow.{BindingRow}
use Rattle.canary_tables_rows.specs.declared.rows.ServiceColumns.{ServiceColumns}
use Rattle.canary_tables_rows.specs.declared.rows.ServiceRow.{ServiceRow}
use Rattle.canary_tables_rows.specs.declared.rows.TallyRow.{TallyRow}
use Rattle.canary_tables_rows.specs.Tables.{Tables, is_service, is_binding_of, is_tally_of}
use Rattle.canary_tables_contents.specs.Numbers.{state_of, hold_of, truth_of}
use Rattle.canary_tables_contents.specs.Reading.{known_in}
use Rattle.canary_tables_contents.specs.Values.{made_from, stand_from, stand_of}
use Rattle.canary_tables_contents.specs.Services.{IsServiceJudged, open_runs_in}
use Rattle.canary_tables_contents.specs.Totals.{tallies_to, bindings_to}
use Rattle.canary_tables_adopt.specs.declared.totals.Totals.{Totals}
use Rattle.canary_tables_adopt.specs.OfService.{AreRunsOf}
use Rattle.canary_tables_adopt.specs.Alone.{only}
use Rattle.canary_tables_adopt.specs.OneService.{IsPastJudged, IsServiceUnder, IsServiceFound, measurements_under, lines_under, totals_bound, totals_of}
use Rattle.canary_tables_adopt.specs.Bindings.{IsAttemptBound}
use Rattle.canary_tables_adopt.specs.Strategies.{newest_in, IsStrategyOf, IsStrategyAccepted}
use Rattle.canary_tables_adopt.proofs.JudgedCallers.{only_one}
use Rattle.canary_tables_adopt.proofs.Names.{equal_names, first_passes}

-- What a reader answers, it answers alone.

same_value : {A : Type 0} (x y : A) → Some x ≡ Some y → x ≡ y
same_value x y is = cc

pub one_value : {A : Type 0} (o : Option A) (x y : A) → o ≡ Some x → o ≡ Some y → x ≡ y
one_value o x y first second = same_value x y (sym first ∙ second)

-- A name.

pub service_found : (t : Tables) (name : List ℕ) (rows : List ServiceRow) (row : ServiceRow) (totals : Totals) → rows ≡ filter (is_service name) t.services → only rows ≡ Some row
    → (filter (is_service row.name) t.services ≡ row ∷ [] → IsServiceJudged t row × (totals ≡ totals_of t row)) → IsServiceFound name t totals
service_found t name rows row totals are one is =
    let alone : filter (is_service name) t.services ≡ row ∷ [] = sym are ∙ only_one rows row one in
    let named : name ≡ row.name = equal_names name row.name (first_passes (is_service name) t.services [] row alone) in
    record { row = row; named = sym named; has = is (subst (λ n. filter (is_service n) t.services ≡ row ∷ []) named alone) }

alone_under : (t : Tables) (name : List ℕ) (rows : List ServiceRow) → rows ≡ filter (is_service name) t.services → (under : IsServiceUnder t name) → only rows ≡ Some under.row
alone_under t name rows are under = ap only (are ∙ subst (λ n. filter (is_service n) t.services ≡ under.row ∷ []) under.named under.has.one)

pub no_service : (t : Tables) (name : List ℕ) (rows : List ServiceRow) → rows ≡ filter (is_service name) t.services → only rows ≡ None → ¬ IsServiceUnder t name
no_service t name rows are none under = let some : None ≡ Some under.row = sym none ∙ alone_under t name rows are under in cc

pub service_there : (t : Tables) (name : List ℕ) (rows : List ServiceRow) (row : ServiceRow) → rows ≡ filter (is_service name) t.services → only rows ≡ Some row → IsServiceUnder t name → IsServiceJudged t row
service_there t name rows row are one under = subst (IsServiceJudged t) (one_value (only rows) under.row row (alone_under t name rows are under) one) under.has

-- A service's row.

-- how a service of a strategy stands, it stands with it, and bound so

record StandsBy (strategy : CheckedStrategy) (bound : BoundParts) (service : ServiceState) : Type 0 where
  strategy_is : service.strategy ≡ strategy
  bound_is : service.bound ≡ bound

of_stand : (name : List ℕ) (strategy : CheckedStrategy) (bound : BoundParts) (s : ServiceColumns) (a : Option ReleaseState) (h : Option (Bool × Bool)) (b : Option Bool) (x : ServiceState) → stand_from name strategy bound s a h b ≡ Some x → StandsBy strategy bound x
of_stand name strategy bound s None h b x e = cc
of_stand name strategy bound s (Some state) None b x e = cc
of_stand name strategy bound s (Some state) (Some hold) None x e = cc
of_stand name strategy bound s (Some state) (Some hold) (Some background) x e =
    let made : ServiceState = record {
      name = name;
      strategy = strategy;
      bound = bound;
      stable = s.stable;
      version = s.version;
      state = state;
      step = s.step;
      entered = s.entered;
      step_hold = hold.0;
      background_hold = hold.1;
      background = background;
      last = s.last;
    } in
    let same : made ≡ x = cc e in
    subst (StandsBy strategy bound) same (record { strategy_is = refl; bound_is = refl })

stands_by : (name : List ℕ) (strategy : CheckedStrategy) (bound : BoundParts) (s : ServiceColumns) (x : ServiceState) → stand_of name strategy bound s ≡ Some x → StandsBy strategy bound x
stands_by name strategy bound s x e = of_stand name strategy bound s (state_of s.state) (hold_of s.hold) (truth_of s.background) x e

pub service_judged : (t : Tables) (row : ServiceRow) (made : ServiceSpec) (strategy : CheckedStrategy) (bound : BoundParts) (service : ServiceState) → filter (is_service row.name) t.services ≡ row ∷ [] → (made_from (canonical_in row.spec) ≡ Some made) × (made.name ≡ row.name)
    → IsStrategyOf t made strategy → IsAttemptBound row.name strategy t bound → stand_of row.name strategy bound row.standing ≡ Some service → IsPastJudged t row service → IsServiceJudged t row
service_judged t row made strategy bound service one is plan attempt stands past =
    let by : StandsBy strategy bound service = stands_by row.name strategy bound row.standing service stands in
    let own : service.strategy ≡ strategy_of made = by.strategy_is ∙ plan.1 in
    let are : AreRunsOf (strategy_of made) row.name row.standing.runs t past.runs = subst (λ s. AreRunsOf s row.name row.standing.runs t past.runs) own past.are in
    record {
      one = one;
      made = made;
      is = is.0;
      named = is.1;
      accepted = plan.0;
      service = service;
      stands = (λ i. stand_of row.name (sym plan.1 i) (bound_of (known_in t row.name 0) (sym plan.1 i)) row.standing) ∙ ap (λ b. stand_of row.name strategy b row.standing) (sym attempt.is) ∙ stands;
      bindings = attempt.rows ∙ ap (λ b. length (distinct (all_revisions b))) (sym by.bound_is);
      runs = past.runs;
      as_many = are.as_many;
      each = are.each;
      measurements = past.measurements;
      read = past.read;
      counted = past.tallied.counted;
      tallied = past.tallied.tallied;
      history = past.history;
      told = past.told.told;
      lines = past.told.lines;
      parts = subst (λ n. is_broken (record { service = service; runs = record { count = n; open_runs = open_runs_in past.runs } }) ≡ false) (sym past.are.as_many) past.parts;
    }

its_strategy : (t : Tables) (row : ServiceRow) → (j : IsServiceJudged t row) → StandsBy (strategy_of j.made) (bound_of (known_in t row.name 0) (strategy_of j.made)) j.service
its_strategy t row j = stands_by row.name (strategy_of j.made) (bound_of (known_in t row.name 0) (strategy_of j.made)) row.standing j.service j.stands

pub past_judged : (t : Tables) (row : ServiceRow) → (j : IsServiceJudged t row) → IsPastJudged t row j.service
past_judged t row j =
    record {
      runs = j.runs;
      are = subst (λ s. AreRunsOf s row.name row.standing.runs t j.runs) (sym (its_strategy t row j).strategy_is) (record { as_many = j.as_many; each = j.each });
      measurements = j.measurements;
      read = j.read;
      tallied = record { counted = j.counted; tallied = j.tallied };
      history = j.history;
      told = record { told = j.told; lines = j.lines };
      parts = subst (λ n. is_broken (record { service = j.service; runs = record { count = n; open_runs = open_runs_in j.runs } }) ≡ false) j.as_many j.parts;
    }

-- it is made by what is read, and this by a strategy that nothing refuses

pub made_there : (t : Tables) (row : ServiceRow) (made : ServiceSpec) → made_from (canonical_in row.spec) ≡ Some made → IsServiceJudged t row → IsStrategyAccepted t made
made_there t row made is j =
    subst (λ m. strategy_refusal (newest_in t) m ≡ None) (one_value (made_from (canonical_in row.spec)) j.made made j.is is) j.accepted

made_same : (t : Tables) (row : ServiceRow) (made : ServiceSpec) (strategy : CheckedStrategy) → made_from (canonical_in row.spec) ≡ Some made → strategy ≡ strategy_of made → (j : IsServiceJudged t row) → strategy_of j.made ≡ strategy
made_same t row made strategy is plan j = ap strategy_of (one_value (made_from (canonical_in row.spec)) j.made made j.is is) ∙ sym plan

-- its present attempt is bound
pub attempt_there : (t : Tables) (row : ServiceRow) (made : ServiceSpec) (strategy : CheckedStrategy) → made_from (canonical_in row.spec) ≡ Some made → strategy ≡ strategy_of made → (j : IsServiceJudged t row) → IsAttemptBound row.name strategy t j.service.bound
attempt_there t row made strategy is plan j =
    record { is = (its_strategy t row j).bound_is ∙ ap (bound_of (known_in t row.name 0)) (made_same t row made strategy is plan j); rows = j.bindings }

stands_there : (t : Tables) (row : ServiceRow) (made : ServiceSpec) (strategy : CheckedStrategy) (bound : BoundParts) → made_from (canonical_in row.spec) ≡ Some made → strategy ≡ strategy_of made → IsAttemptBound row.name strategy t bound → (j : IsServiceJudged t row)
    → stand_of row.name strategy bound row.standing ≡ Some j.service
stands_there t row made strategy bound is plan attempt j =
    let same : strategy_of j.made ≡ strategy = made_same t row made strategy is plan j in
    ap (λ b. stand_of row.name strategy b row.standing) attempt.is
    ∙ (λ i. stand_of row.name (sym same i) (bound_of (known_in t row.name 0) (sym same i)) row.standing)
    ∙ j.stands

pub no_stand : (t : Tables) (row : ServiceRow) (made : ServiceSpec) (strategy : CheckedStrategy) (bound : BoundParts) → made_from (canonical_in row.spec) ≡ Some made → strategy ≡ strategy_of made → IsAttemptBound row.name strategy t bound
    → stand_of row.name strategy bound row.standing ≡ None → ¬ IsServiceJudged t row
no_stand t row made strategy bound is plan attempt none j = let some : None ≡ Some j.service = sym none ∙ stands_there t row made strategy bound is plan attempt j in cc

pub past_there : (t : Tables) (row : ServiceRow) (made : ServiceSpec) (strategy : CheckedStrategy) (bound : BoundParts) (service : ServiceState) → made_from (canonical_in row.spec) ≡ Some made → strategy ≡ strategy_of made → IsAttemptBound row.name strategy t bound
    → stand_of row.name strategy bound row.standing ≡ Some service → IsServiceJudged t row → IsPastJudged t row service
past_there t row made strategy bound service is plan attempt stands j =
    subst (IsPastJudged t row) (one_value (stand_of row.name strategy bound row.standing) j.service service (stands_there t row made strategy bound is plan attempt j) stands) (past_judged t row j)

-- how much a service has whose rows of binding are counted
pub totals_there : (t : Tables) (row : ServiceRow) (strategy : CheckedStrategy) (bound : BoundParts) (service : ServiceState) (totals : Totals) → IsAttemptBound row.name strategy t bound → stand_of row.name strategy bound row.standing ≡ Some service → totals ≡ totals_bound t row service.bound → totals ≡ totals_of t row
totals_there t row strategy bound service totals attempt stands is =
    let by : StandsBy strategy bound service = stands_by row.name strategy bound row.standing service stands in
    let rows : length (distinct (all_revisions service.bound)) ≡ length (filter (is_binding_of row.name 0) t.bindings) = ap (λ b. length (distinct (all_revisions b))) by.bound_is ∙ sym attempt.rows in
    is ∙ (λ i. record (totals_of t row) { bindings = rows i + bindings_to t.bindings row.name row.standing.runs })

-- How much it has.

up_to : (ℕ → ℕ) → ℕ → ℕ
up_to f zero = 0
up_to f (suc n) = up_to f n + f (suc n)

up_from_first : (f : ℕ → ℕ) (n : ℕ) → up_to f (suc n) ≡ f 1 + up_to (λ k. f (suc k)) n
unfolding up_to
up_from_first f zero = omega arith
up_from_first f (suc n) = let before : up_to f (suc n) ≡ f 1 + up_to (λ k. f (suc k)) n = up_from_first f n in omega arith

tallies_up : (tallies : List TallyRow) (name : List ℕ) (n : ℕ) → tallies_to tallies name n ≡ up_to (λ k. length (filter (is_tally_of name k) tallies)) n
unfolding up_to
tallies_up tallies name zero = refl
tallies_up tallies name (suc n) = ap (λ s. s + length (filter (is_tally_of name (suc n)) tallies)) (tallies_up tallies name n)

run_by_run : {R : Type 0} (f : ℕ → ℕ) (g : R → ℕ) (runs : List R) → ((place : ℕ) (r : R) → slice_get runs place ≡ Some r → f (suc place) ≡ g r) → up_to f (length runs) ≡ sum_by g runs
unfolding up_to
run_by_run f g [] each = refl
run_by_run f g (r ∷ rs) each =
    let first : f 1 ≡ g r = each 0 r refl in
    let rest : up_to (λ k. f (suc k)) (length rs) ≡ sum_by g rs = run_by_run (λ k. f (suc k)) g rs (λ place x at. each (suc place) x at) in
    let all : sum_by g (r ∷ rs) ≡ g r + sum_by g rs = sum_by-cons g r rs in
    let shift : up_to f (suc (length rs)) ≡ f 1 + up_to (λ k. f (suc k)) (length rs) = up_from_first f (length rs) in
    shift ∙ (let e : f 1 + up_to (λ k. f (suc k)) (length rs) ≡ g r + sum_by g rs = omega arith in e) ∙ sym all

tallies_sum : (t : Tables) (strategy : CheckedStrategy) (name : List ℕ) (count : ℕ) (runs : List RunRecord) → AreRunsOf strategy name count t runs → sum_by (λ (r : RunRecord). length r.tallies) runs ≡ tallies_to t.tallies name count
tallies_sum t strategy name count runs are =
    sym (run_by_run (λ k. length (filter (is_tally_of name k) t.tallies)) (λ (r : RunRecord). length r.tallies) runs (λ place r at.
    let e = are.each place r at in ap (λ k. length (filter (is_tally_of name k) t.tallies)) (sym e.0) ∙ e.1.no_more))
    ∙ sym (tallies_up t.tallies name (length runs))
    ∙ ap (tallies_to t.tallies name) are.as_many

bindings_up : (bindings : List BindingRow) (name : List ℕ) (n : ℕ) → bindings_to bindings name n ≡ up_to (λ k. length (filter (is_binding_of name k) bindings)) n
unfolding up_to
bindings_up bindings name zero = refl
bindings_up bindings name (suc n) = ap (λ s. s + length (filter (is_binding_of name (suc n)) bindings)) (bindings_up bindings name n)

bindings_sum : (t : Tables) (strategy : CheckedStrategy) (name : List ℕ) (count : ℕ) (runs : List RunRecord) → AreRunsOf strategy name count t runs → sum_by (λ (r : RunRecord). length (distinct r.analysis.revisions)) runs ≡ bindings_to t.bindings name count
bindings_sum t strategy name count runs are =
    sym (run_by_run (λ k. length (filter (is_binding_of name k) t.bindings)) (λ (r : RunRecord). length (distinct r.analysis.revisions)) runs (λ place r at.
    let e = are.each place r at in ap (λ k. length (filter (is_binding_of name k) t.bindings)) (sym e.0) ∙ e.1.bindings))
    ∙ sym (bindings_up t.bindings name (length runs))
    ∙ ap (bindings_to t.bindings name) are.as_many

pub past_totals : (t : Tables) (row : ServiceRow) (service : ServiceState) (runs : List RunRecord) → AreRunsOf service.strategy row.name row.standing.runs t runs
    → (totals : Totals) → totals.runs ≡ row.standing.runs → totals.bindings ≡ length (distinct (all_revisions service.bound)) + sum_by (λ (r : RunRecord). length (distinct r.analysis.revisions)) runs → totals.tallies ≡ sum_by (λ (r : RunRecord). length r.tallies) runs
    → totals.measurements ≡ measurements_under t row → totals.lines ≡ lines_under t row → totals ≡ totals_bound t row service.bound
past_totals t row service runs are totals count bound sum measured lines =
    let bindings = bound ∙ ap (λ n. length (distinct (all_revisions service.bound)) + n) (bindings_sum t service.strategy row.name row.standing.runs runs are) in
    let tallies = sum ∙ tallies_sum t service.strategy row.name row.standing.runs runs are in
    λ i. record { runs = count i; bindings = bindings i; tallies = tallies i; measurements = measured i; lines = lines i }
