-- What the queries on `run` and on `tally` find.
use Rattle.std.proofs.Common.{◌≡◌, ◌∷◌, ◌&&◌, [], ℕ, List, map, filter, take, true, false, Some, refl, sym, ap, ap₂, subst, ◌∙◌}
use Rattle.std.specs.List.{AllByRecursion}
use Rattle.sqlite.specs.declared.types.Value.TheVariants.{Text as Words}
use Rattle.sqlite.specs.Order.{Row, column}
use Rattle.sqlite.specs.State.{State, Shown}
use Rattle.sqlite_keyed.proofs.ListLemmas.{ascending_weaker}
use Rattle.canary_tables_rows.specs.declared.rows.RunRow.{RunRow}
use Rattle.canary_tables_rows.specs.declared.rows.TallyRow.{TallyRow}
use Rattle.canary_tables_rows.specs.Tables.{Tables, is_run, is_open_run_of}
use Rattle.canary_tables_schema.specs.Layout.{run_at, tally_at}
use Rattle.canary_tables_schema.specs.Cells.{integer, whole_or_null, run_cells, run_in, run_with, tally_cells, tally_in, tally_with}
use Rattle.canary_tables_schema.specs.Stores.{Stores}
use Rattle.canary_tables_read.specs.Finds.{TellsCells}
use Rattle.canary_tables_read.specs.Parts.{counts_cells}
use Rattle.canary_tables_read.specs.Sorts.{Sorts, IsFront, is_open, is_run_of, number_of, metric_of}
use Rattle.canary_tables_rows.specs.Tables.{is_tally_of}
use Rattle.canary_tables_read.proofs.Answer.{passes, shows}
use Rattle.canary_tables_read.proofs.Asking.{all_found}
use Rattle.canary_tables_read.proofs.Breaking.{all_taken, all_moved}
use Rattle.canary_tables_read.proofs.ByColumns.{number_back}
use Rattle.canary_tables_read.proofs.Ordering.{sorted_rows, listed_found}
use Rattle.canary_tables_read.proofs.Tests.{and_true, words_same, same_words, both_same, first_same, null_same, null_first}
use Rattle.canary_tables_read.proofs.Texts.{run_text, run_tests, run_shown, run_asks, open_runs_text, open_runs_tests, open_runs_shown, open_runs_asks, front_runs_text, front_runs_tests, front_runs_asks, three, tallies_text, tallies_tests, tallies_shown, tallies_asks}
use Rattle.canary_tables_read.proofs.TypedRows.{Tells, taken}

pub run_back : (x : RunRow) → run_in (run_cells x) ≡ Some x
run_back x = ap₂ (λ step closed. run_with x.service x.number step x.started closed x.ending.outside x.ending.verdict) (number_back x.step) (number_back x.ending.closed)

pub tally_back : (x : TallyRow) → tally_in (tally_cells x) ≡ Some x
tally_back x = ap (tally_with x.service x.run x.metric x.counts.counted x.counts.failed x.counts.inconclusive x.counts.errors x.counts.consecutive x.counts.passes) (number_back x.counts.last)

-- the cells of a run, by the name of its service
abbrev of_service : List ℕ → RunRow → Row
of_service service x = Words service ∷ integer x.number ∷ whole_or_null x.step ∷ integer x.started ∷ whole_or_null x.ending.closed ∷ integer x.ending.outside ∷ integer x.ending.verdict ∷ []

tells_run : (service : List ℕ) (number : ℕ) → Tells run_cells (is_run service number) run_cells (λ row. Words service ∷ row) (passes run_tests (Words service ∷ integer number ∷ [])) (shows run_shown (Words service ∷ integer number ∷ []))
tells_run service number = record {
  filled = λ x. (_, _, refl);
  tests = λ id x. both_same x.service service x.number number;
  shown = λ id x h. ap (λ n. of_service n x) (first_same service x.service _ h);
}

-- what is shown are the rows of the run
pub run_rows : (old new : State) (t : Tables) (service : List ℕ) (number : ℕ) (params : Row) (rows : List Row) → Stores old t → params ≡ Words service ∷ integer number ∷ [] → Shown run_text params old new rows
    → TellsCells run_cells (λ row. Words service ∷ row) (filter (is_run service number) t.runs) rows
run_rows old new t service number params rows has given h =
    all_found run_text run_at run_tests run_shown run_asks run_cells (is_run service number) run_cells (λ row. Words service ∷ row) (Words service ∷ integer number ∷ []) (tells_run service number) t.runs rows
    (record { old = old; new = new; layout = has.layout; schema = has.holds.schema; numbered = has.holds.numbered.1.1.1.1.0; stored = has.holds.runs; shows_rows = subst (λ p. Shown run_text p old new rows) given h })

tells_open : (service : List ℕ) → Tells run_cells (is_open_run_of service) run_cells (λ row. Words service ∷ row) (passes open_runs_tests (Words service ∷ [])) (shows open_runs_shown (Words service ∷ []))
tells_open service = record {
  filled = λ x. (_, _, refl);
  tests = λ id x. ap₂ (λ a b. a && b) (words_same x.service service) (and_true _ ∙ null_same x.ending.closed);
  shown = λ id x h. ap (λ n. of_service n x) (first_same service x.service _ h);
}

run_keyed : (service : List ℕ) (x : RunRow) (row : Row) → run_cells x ≡ Words service ∷ row → column row 0 ≡ integer x.number
run_keyed service x [] e = absurd (cc)
run_keyed service x (v ∷ row) e = cc

-- what is shown are the open runs of the service, by their numbers
pub open_rows : (old new : State) (t : Tables) (service : List ℕ) (params : Row) (rows : List Row) → Stores old t → params ≡ Words service ∷ [] → Shown open_runs_text params old new rows
    → (all : List RunRow) × Sorts number_of (filter (is_open_run_of service) t.runs) all × TellsCells run_cells (λ row. Words service ∷ row) all rows
open_rows old new t service params rows has given h =
    sorted_rows run_cells (λ row. Words service ∷ row) number_of 0 (run_keyed service) run_in run_back open_runs_text run_at open_runs_tests open_runs_shown 2 open_runs_asks (is_open_run_of service)
    (Words service ∷ []) (tells_open service) (λ row. refl) t.runs rows
    (record { old = old; new = new; layout = has.layout; schema = has.holds.schema; numbered = has.holds.numbered.1.1.1.1.0; stored = has.holds.runs; shows_rows = subst (λ p. Shown open_runs_text p old new rows) given h })

tells_of : (service : List ℕ) → Tells run_cells (is_run_of service) run_cells (λ row. Words service ∷ row) (passes front_runs_tests (Words service ∷ [])) (shows open_runs_shown (Words service ∷ []))
tells_of service = record {
  filled = λ x. (_, _, refl);
  tests = λ id x. and_true _ ∙ words_same x.service service;
  shown = λ id x h. ap (λ n. of_service n x) (same_words service x.service h);
}

run_marked : (service : List ℕ) (x : RunRow) (row : Row) → run_cells x ≡ Words service ∷ row → column row 3 ≡ whole_or_null x.ending.closed
run_marked service x [] e = absurd (cc)
run_marked service x (a ∷ []) e = absurd (cc)
run_marked service x (a ∷ b ∷ []) e = absurd (cc)
run_marked service x (a ∷ b ∷ c ∷ []) e = absurd (cc)
run_marked service x (a ∷ b ∷ c ∷ d ∷ row) e = cc

-- what is shown are three runs of the service, the open ones first
pub front_rows : (old new : State) (t : Tables) (service : List ℕ) (params : Row) (rows : List Row) → Stores old t → params ≡ Words service ∷ [] → Shown front_runs_text params old new rows
    → (all : List RunRow) × IsFront 3 (filter (is_run_of service) t.runs) all × TellsCells run_cells (λ row. Words service ∷ row) all rows
front_rows old new t service params rows has given h =
    let l = listed_found run_cells (λ row. Words service ∷ row) (λ x. whole_or_null x.ending.closed) 3 (run_marked service) run_in run_back front_runs_text run_at front_runs_tests open_runs_shown false 5 three front_runs_asks (is_run_of service)
    (Words service ∷ []) (tells_of service) (λ row. refl) t.runs rows
    (record { old = old; new = new; layout = has.layout; schema = has.holds.schema; numbered = has.holds.numbered.1.1.1.1.0; stored = has.holds.runs; shows_rows = subst (λ p. Shown front_runs_text p old new rows) given h }) in
    let cut : rows ≡ take 3 l.0 = l.1 in (
      take 3 l.2.ordered,
      record {
        ordered = l.2.ordered;
        same = l.2.same;
        open_first = ascending_weaker _ (λ x y. is_open y ≡ true → is_open x ≡ true) (λ x y. null_first x.ending.closed y.ending.closed) l.2.ordered l.2.rising;
        front = refl;
      },
      ap (map (λ row. Words service ∷ row)) cut ∙ taken (λ row. Words service ∷ row) 3 l.0 ∙ ap (take 3) (sym l.2.are) ∙ sym (taken run_cells 3 l.2.ordered),
    )

-- those that are in front are of the service
pub front_within : (Within : RunRow → Type 0) (runs front : List RunRow) → IsFront 3 runs front → AllByRecursion Within runs → AllByRecursion Within front
front_within Within runs front f h = subst (AllByRecursion Within) (sym f.front) (all_taken Within 3 f.ordered (all_moved Within runs f.ordered f.same h))

tells_tally : (service : List ℕ) (run : ℕ)
    → Tells tally_cells (is_tally_of service run) tally_cells (λ row. Words service ∷ row) (passes tallies_tests (Words service ∷ integer run ∷ [])) (shows tallies_shown (Words service ∷ integer run ∷ []))
tells_tally service run = record {
  filled = λ x. (_, _, refl);
  tests = λ id x. both_same x.service service x.run run;
  shown = λ id x h. ap (λ n. Words n ∷ integer x.run ∷ integer x.metric ∷ counts_cells x.counts) (first_same service x.service _ h);
}

tally_keyed : (service : List ℕ) (x : TallyRow) (row : Row) → tally_cells x ≡ Words service ∷ row → column row 1 ≡ integer x.metric
tally_keyed service x [] e = absurd (cc)
tally_keyed service x (v ∷ []) e = absurd (cc)
tally_keyed service x (v ∷ w ∷ row) e = cc

-- what is shown are the tallies of the run, by their metrics
pub tally_rows : (old new : State) (t : Tables) (service : List ℕ) (run : ℕ) (params : Row) (rows : List Row) → Stores old t → params ≡ Words service ∷ integer run ∷ [] → Shown tallies_text params old new rows
    → (all : List TallyRow) × Sorts metric_of (filter (is_tally_of service run) t.tallies) all × TellsCells tally_cells (λ row. Words service ∷ row) all rows
tally_rows old new t service run params rows has given h =
    sorted_rows tally_cells (λ row. Words service ∷ row) metric_of 1 (tally_keyed service) tally_in tally_back tallies_text tally_at tallies_tests tallies_shown 3 tallies_asks (is_tally_of service run)
    (Words service ∷ integer run ∷ []) (tells_tally service run) (λ row. refl) t.tallies rows
    (record { old = old; new = new; layout = has.layout; schema = has.holds.schema; numbered = has.holds.numbered.1.1.1.1.1.1.1.1.1.0; stored = has.holds.tallies; shows_rows = subst (λ p. Shown tallies_text p old new rows) given h })
