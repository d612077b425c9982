-- A service that is judged is read as a service of the model.
use Rattle.std.proofs.Common.{◌≡◌, ℕ, zero, suc, ◌≤◌, List, [], ◌∷◌, ◌++◌, length, take, Bool, true, false, Some, None, refl, sym, ap, ◌∙◌, subst, arith}
use Rattle.std.specs.Prelude.{Option, map, filter, slice_get, option_map, option_and_then, unwrap_or}
use Rattle.std.specs.List.{AllByRecursion, filter_map, cons_option}
use Rattle.std.proofs.Math.Seq.{take-length}
use Rattle.std.proofs.lemmas.List.{length-map}
use Rattle.std.proofs.lemmas.Option.{slice_get-map}
use Rattle.canary_plan.specs.declared.bound.BoundParts.{BoundParts}
use Rattle.canary_plan.specs.declared.strategy.CheckedStrategy.{CheckedStrategy}
use Rattle.canary_plan.specs.declared.service.ServiceSpec.{ServiceSpec}
use Rattle.canary_plan.specs.declared.command.Command.{Command}
use Rattle.canary_plan.specs.declared.command.Command.TheVariants as command
use Rattle.canary_plan.specs.declared.line.Line.{Line}
use Rattle.canary_plan.specs.Lines.{line_at}
use Rattle.canary_plan.specs.Fit.{no_analysis}
use Rattle.canary_plan.specs.declared.analysis_parts.AnalysisParts.{AnalysisParts}
use Rattle.canary_plan.specs.Plans.{Templates, strategy_of, bound_of, analysis_at, analysis_or_none}
use Rattle.canary_canonical.specs.Readings.{canonical_in}
use Rattle.canary_release.specs.declared.effect.Recorded.{Recorded}
use Rattle.canary_release.specs.declared.effect.Closing.{Closing}
use Rattle.canary_release.specs.declared.state.ReleaseState.{ReleaseState}
use Rattle.canary_release.specs.declared.state.ServiceState.{ServiceState}
use Rattle.canary_release.specs.Pasts.{Run, Past}
use Rattle.canary_release.specs.Desks.{ModelService}
use Rattle.canary_once.specs.declared.record.RunRecord.{RunRecord}
use Rattle.canary_tables_rows.specs.declared.rows.ServiceColumns.{ServiceColumns}
use Rattle.canary_tables_rows.specs.declared.rows.ServiceRow.{ServiceRow}
use Rattle.canary_tables_rows.specs.Tables.{Tables, is_run}
use Rattle.canary_tables_contents.specs.Numbers.{bit, truth_of}
use Rattle.canary_tables_contents.specs.Values.{service_row, made_from, standing_of, stand_from, stand_of, ending_of, closing_from, closing_of, lists_in, run_from, run_of_row, history_row, line_of_row}
use Rattle.canary_tables_contents.specs.Numbers.{state_number, state_of, hold_number, hold_of}
use Rattle.canary_tables_contents.specs.Tables.{IsReadableCommand, IsReadableClosing, IsReadableLine}
use Rattle.canary_tables_contents.specs.Reading.{known_in, measurements_in, history_in, runs_to, past_in, service_from, service_made, service_of_row}
use Rattle.canary_tables_contents.specs.Services.{row_of_record, IsServiceJudged}
use Rattle.canary_tables_contents.proofs.CommandTexts.{canonical_text, still_canonical}
use Rattle.canary_tables_contents.proofs.CallersJudged.{HasPlace, has_place}
use Rattle.canary_tables_contents.proofs.RowTexts.{state_again, hold_again, truth_again}

-- How a service stands.

record IsStandFrom (name : List ℕ) (plan : CheckedStrategy) (to : BoundParts) (s : ServiceColumns) (a : Option ReleaseState) (h : Option (Bool × Bool)) (b : Option Bool) (x : ServiceState) : Type 0 where
  named : x.name ≡ name
  strategy : x.strategy ≡ plan
  bound : x.bound ≡ to
  stable : x.stable ≡ s.stable
  version : x.version ≡ s.version
  state : a ≡ Some x.state
  step : x.step ≡ s.step
  entered : x.entered ≡ s.entered
  hold : h ≡ Some (x.step_hold, x.background_hold)
  background : b ≡ Some x.background
  last : x.last ≡ s.last

of_stand : (name : List ℕ) (plan : CheckedStrategy) (to : BoundParts) (s : ServiceColumns) (a : Option ReleaseState) (h : Option (Bool × Bool)) (b : Option Bool) (x : ServiceState) → stand_from name plan to s a h b ≡ Some x → IsStandFrom name plan to s a h b x
of_stand name plan to s None h b x e = absurd (cc)
of_stand name plan to s (Some state) None b x e = absurd (cc)
of_stand name plan to s (Some state) (Some hold) None x e = absurd (cc)
of_stand name plan to s (Some state) (Some hold) (Some background) x e =
    let made : ServiceState = record {
      name = name;
      strategy = plan;
      bound = to;
      stable = s.stable;
      version = s.version;
      state = state;
      step = s.step;
      entered = s.entered;
      step_hold = hold.0;
      background_hold = hold.1;
      background = background;
      last = s.last;
    } in
    let same : made ≡ x = cc e in
    subst (IsStandFrom name plan to s (Some state) (Some hold) (Some background)) same (record {
      named = refl;
      strategy = refl;
      bound = refl;
      stable = refl;
      version = refl;
      state = refl;
      step = refl;
      entered = refl;
      hold = refl;
      background = refl;
      last = refl;
    })

-- what is read of a standing is written as it is
pub record IsStanding (name : List ℕ) (plan : CheckedStrategy) (to : BoundParts) (s : ServiceColumns) (x : ServiceState) : Type 0 where
  pub named : x.name ≡ name
  pub strategy : x.strategy ≡ plan
  pub bound : x.bound ≡ to
  pub again : standing_of x s.runs ≡ s

pub stand_again : (name : List ℕ) (plan : CheckedStrategy) (to : BoundParts) (s : ServiceColumns) (x : ServiceState) → stand_of name plan to s ≡ Some x → IsStanding name plan to s x
stand_again name plan to s x e =
    let of : IsStandFrom name plan to s (state_of s.state) (hold_of s.hold) (truth_of s.background) x = of_stand name plan to s (state_of s.state) (hold_of s.hold) (truth_of s.background) x e in
    let state : state_number x.state ≡ s.state = state_again s.state x.state of.state in
    let hold : hold_number x.step_hold x.background_hold ≡ s.hold = hold_again s.hold (x.step_hold, x.background_hold) of.hold in
    let background : bit x.background ≡ s.background = truth_again s.background x.background of.background in
    record {
      named = of.named;
      strategy = of.strategy;
      bound = of.bound;
      again = λ i. record {
        stable = of.stable i;
        version = of.version i;
        state = state i;
        step = of.step i;
        entered = of.entered i;
        hold = hold i;
        background = background i;
        runs = s.runs;
        last = of.last i;
      };
    }

-- The command that made it.

record IsMadeBy (o : Option Command) (spec : ServiceSpec) : Type 0 where
  command : o ≡ Some (command.Service spec)

of_made : (o : Option Command) (spec : ServiceSpec) → made_from o ≡ Some spec → IsMadeBy o spec
of_made (Some (command.Service made)) spec e = let same : made ≡ spec = cc e in subst (IsMadeBy (Some (command.Service made))) same (record { command = refl })
of_made other spec e = absurd (cc)

-- Runs.

truth_back : (b : Bool) → truth_of (bit b) ≡ Some b
truth_back true = refl
truth_back false = refl

closing_back : (number : ℕ) (o : Option Closing) → IsReadableClosing number o → closing_of number (ending_of o) ≡ Some o
closing_back number None readable = refl
closing_back number (Some x) readable = (λ i. closing_from number x.at (truth_back x.outside i) (readable.1 i)) ∙ (λ i. Some (Some (record x { run = sym readable.0 i })))

-- the run of a record, among these measurements
abbrev pub run_made : List Recorded → RunRecord → Run
run_made measurements r =
    record { number = r.number; step = r.step; analysis = r.analysis; started = r.started; closed = r.closed; lists = lists_in measurements r.number 0 (length r.analysis.metrics) }

-- what its own binding makes of a strategy has its analysis
abbrev pub IsAnalysed : Templates → CheckedStrategy → RunRecord → Type 0
IsAnalysed known strategy r = analysis_at (bound_of known strategy) r.step ≡ Some r.analysis

run_again : (name : List ℕ) (strategy : CheckedStrategy) (known : Templates) (xs : List Recorded) (r : RunRecord) → IsReadableClosing r.number r.closed → IsAnalysed known strategy r → run_of_row strategy known xs (row_of_record name r) ≡ Some (run_made xs r)
run_again name strategy known xs r readable analysed =
    let own : analysis_or_none (bound_of known strategy) r.step ≡ r.analysis = ap (λ (o : Option AnalysisParts). unwrap_or o no_analysis) analysed in
    λ i. run_from xs (own i) (row_of_record name r) (closing_back r.number r.closed readable i)

take-one : {A : Type 0} (n : ℕ) (xs : List A) (x : A) → slice_get xs n ≡ Some x → take n xs ++ x ∷ [] ≡ take (suc n) xs
take-one n [] x e = absurd (cc)
take-one zero (y ∷ ys) x e = let same : y ≡ x = cc e in λ i. sym same i ∷ []
take-one (suc n) (y ∷ ys) x e = ap (λ (zs : List _). y ∷ zs) (take-one n ys x e)

-- each place has the row of its run, which is bound to its analysis
abbrev pub HaveRunRows : Tables → CheckedStrategy → List ℕ → List RunRecord → Type 0
HaveRunRows t strategy name runs =
    (place : ℕ) (r : RunRecord) → slice_get runs place ≡ Some r → (filter (is_run name (suc place)) t.runs ≡ row_of_record name r ∷ []) × IsReadableClosing r.number r.closed × IsAnalysed (known_in t name (suc place)) strategy r

runs_taken : (t : Tables) (strategy : CheckedStrategy) (xs : List Recorded) (name : List ℕ) (runs : List RunRecord) → HaveRunRows t strategy name runs → (n : ℕ) → n ≤ length runs
    → runs_to t strategy xs name n ≡ take n (map (run_made xs) runs)
runs_taken t strategy xs name runs have zero few = refl
runs_taken t strategy xs name runs have (suc n) few =
    let h : HasPlace runs n = has_place runs n (omega arith) in
    let made : Run = run_made xs h.value in
    let is = have n h.value h.there in
    let reads = run_of_row strategy (known_in t name (suc n)) xs in
    let one : filter_map (run_of_row strategy (known_in t name (suc n)) xs) (filter (is_run name (suc n)) t.runs) ≡ made ∷ [] =
    ap (filter_map reads) is.0 ∙ ap (λ (o : Option Run). cons_option o []) (run_again name strategy (known_in t name (suc n)) xs h.value is.1 is.2) in
    (λ i. runs_taken t strategy xs name runs have n (omega arith) i ++ one i)
    ∙ take-one n (map (run_made xs) runs) made (slice_get-map (run_made xs) runs n ∙ ap (option_map (run_made xs)) h.there)

pub runs_again : (t : Tables) (strategy : CheckedStrategy) (xs : List Recorded) (name : List ℕ) (runs : List RunRecord) → HaveRunRows t strategy name runs → runs_to t strategy xs name (length runs) ≡ map (run_made xs) runs
runs_again t strategy xs name runs have =
    runs_taken t strategy xs name runs have (length runs) (omega arith)
    ∙ ap (λ n. take n (map (run_made xs) runs)) (sym (length-map runs (run_made xs)))
    ∙ take-length (map (run_made xs) runs)

-- Lines.

lines_again : (name : List ℕ) (lines : List Line) → AllByRecursion IsReadableLine lines → filter_map line_of_row (map (history_row name) lines) ≡ lines
lines_again name [] all = refl
lines_again name (line ∷ lines) all =
    let first : line_of_row (history_row name line) ≡ Some line = ap (option_map (line_at line.moment)) all.0 in
    λ i. cons_option (first i) (lines_again name lines all.1 i)

-- The whole.

abbrev pub past_judged : {t : Tables} {row : ServiceRow} → IsServiceJudged t row → Past
past_judged j = record { runs = map (run_made j.measurements) j.runs; measurements = j.measurements; history = j.history }

abbrev pub service_judged : {t : Tables} {row : ServiceRow} → IsServiceJudged t row → ModelService
service_judged j = record { made = j.made; service = j.service; past = past_judged j }

-- what it is bound to by its rows
abbrev pub bound_by : Tables → List ℕ → ServiceSpec → BoundParts
bound_by t name made = bound_of (known_in t name 0) (strategy_of made)

pub standing_judged : (t : Tables) (row : ServiceRow) (j : IsServiceJudged t row) → IsStanding row.name (strategy_of j.made) (bound_by t row.name j.made) row.standing j.service
standing_judged t row j = stand_again row.name (strategy_of j.made) (bound_by t row.name j.made) row.standing j.service j.stands

pub have_run_rows : (t : Tables) (row : ServiceRow) (j : IsServiceJudged t row) → HaveRunRows t (strategy_of j.made) row.name j.runs
have_run_rows t row j place r there =
    let is = j.each place r there in (
      subst (λ n. filter (is_run row.name n) t.runs ≡ row_of_record row.name r ∷ []) is.0 is.1.one,
      is.1.closed,
      subst (λ n. IsAnalysed (known_in t row.name n) (strategy_of j.made) r) is.0 is.1.analysis,
    )

past_again : (t : Tables) (row : ServiceRow) (j : IsServiceJudged t row) → past_in t row.name (strategy_of j.made) row.standing.runs ≡ past_judged j
past_again t row j =
    let strategy : CheckedStrategy = strategy_of j.made in
    let measurements : measurements_in t.measurements row.name ≡ j.measurements = j.read.values in
    let history : history_in t.history row.name ≡ j.history = ap (filter_map line_of_row) j.told ∙ lines_again row.name j.history j.lines in
    let many : row.standing.runs ≡ length j.runs = sym j.as_many in
    let runs : runs_to t strategy j.measurements row.name (length j.runs) ≡ map (run_made j.measurements) j.runs = runs_again t strategy j.measurements row.name j.runs (have_run_rows t row j) in
    (λ i. record { runs = runs_to t strategy (measurements i) row.name (many i); measurements = measurements i; history = history i })
    ∙ (λ i. record { runs = runs i; measurements = j.measurements; history = j.history })

pub service_read : (t : Tables) (row : ServiceRow) (j : IsServiceJudged t row) → service_of_row t row ≡ Some (service_judged j)
service_read t row j =
    ap (option_and_then (service_made t row)) j.is
    ∙ ap (service_from t row j.made) j.stands
    ∙ (λ i. Some (record { made = j.made; service = j.service; past = past_again t row j i }))

pub made_readable : (t : Tables) (row : ServiceRow) (j : IsServiceJudged t row) → IsReadableCommand (command.Service j.made)
made_readable t row j = still_canonical row.spec (command.Service j.made) (of_made (canonical_in row.spec) j.made j.is).command

pub row_again : (t : Tables) (row : ServiceRow) (j : IsServiceJudged t row) → service_row row.name (service_judged j) ≡ row
row_again t row j =
    let s : IsStanding row.name (strategy_of j.made) (bound_by t row.name j.made) row.standing j.service = standing_judged t row j in
    let many : length (map (run_made j.measurements) j.runs) ≡ row.standing.runs = length-map j.runs (run_made j.measurements) ∙ j.as_many in
    let text = canonical_text row.spec (command.Service j.made) (of_made (canonical_in row.spec) j.made j.is).command in
    (λ i. record { name = row.name; spec = text i; standing = standing_of j.service (many i) }) ∙ (λ i. record { name = row.name; spec = row.spec; standing = s.again i })
