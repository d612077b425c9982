-- Runs with their tallies, and services with their open runs, are found.
use Rattle.std.proofs.Common.{◌≡◌, ℕ, zero, suc, ◌+◌, ◌==◌, List, [], ◌∷◌, length, Bool, true, false, Some, None, refl, sym, ap, ◌∙◌, subst, arith}
use Rattle.std.specs.Prelude.{Option, cond, ◌&&◌, filter, map, find, slice_get, option_map, option_and_then, is_none, IsPermutation}
use Rattle.std.specs.Str.{bytes_eq}
use Rattle.std.specs.List.{AllByRecursion, list_any}
use Rattle.std.specs.FinMap.{get}
use Rattle.std.proofs.lemmas.List.Elements.{filter_agree}
use Rattle.canary_metric.specs.Counts.{Counts}
use Rattle.canary_plan.specs.declared.command.Command.{Command}
use Rattle.canary_plan.specs.declared.bound.BoundParts.{BoundParts}
use Rattle.canary_plan.specs.declared.strategy.CheckedStrategy.{CheckedStrategy}
use Rattle.canary_plan.specs.declared.command.Command.TheVariants as command
use Rattle.canary_plan.specs.Plans.{Templates, strategy_of, bound_of, analysis_or_none}
use Rattle.canary_release.specs.declared.effect.Recorded.{Recorded}
use Rattle.canary_release.specs.declared.effect.Closing.{Closing}
use Rattle.canary_release.specs.declared.runs.OpenRun.{OpenRun}
use Rattle.canary_release.specs.Order.{AreNumbered, IsRun, IsInOrder, AreRevisions}
use Rattle.canary_release.specs.Parts.{has_other_revisions}
use Rattle.canary_release.specs.Pasts.{Run, is_open, counts_of, tallied, tracked}
use Rattle.canary_release.specs.Stored.{stored_form}
use Rattle.canary_release.proofs.PartsKept.{fit_of}
use Rattle.canary_release.specs.Desks.{ModelService, RevisionMap, revisions_of}
use Rattle.canary_once.specs.declared.record.RunRecord.{RunRecord}
use Rattle.canary_once.specs.Contents.{Contents}
use Rattle.canary_once.specs.Records.{record_of, record_numbered, is_numbered, past_in, past_of, run_of}
use Rattle.canary_tables_rows.specs.declared.rows.RunRow.{RunRow}
use Rattle.canary_tables_rows.specs.declared.rows.TallyRow.{TallyRow}
use Rattle.canary_tables_rows.specs.declared.rows.ServiceRow.{ServiceRow}
use Rattle.canary_tables_rows.specs.Tables.{Tables, is_run, is_open_run_of, is_tally}
use Rattle.canary_tables_contents.specs.Values.{made_from, run_row, tally_row, ending_of, service_row}
use Rattle.canary_tables_contents.specs.Tables.{row_if, run_at, tally_rows_of, IsReadableCommand, IsReadableRun}
use Rattle.canary_tables_contents.specs.Reading.{first_row, known_in, contents_of, HoldsContents}
use Rattle.canary_tables_contents.specs.Ordered.{AscendByMetric, AscendByNumber}
use Rattle.canary_tables_rows.specs.Tables.{is_tally_of}
use Rattle.canary_tables_contents.specs.Finding.{IsFound, tallies_told, tallies_of, strategy_by, analysis_by, record_closed, record_of_row, open_run_of, with_analysis, open_runs_by, parts_standing, parts_made, parts_of_row}
use Rattle.canary_tables_contents.specs.Laws.{TalliesAreFound, RunsAreFound, RunsHaveServices, OpenRunsAreFound, ServicesAreFound}
use Rattle.canary_tables_contents.proofs.Keys.{optional}
use Rattle.canary_tables_contents.proofs.RowsBack.{closing_back, stand_back, all_at}
use Rattle.canary_tables_contents.proofs.BindingsBack.{in_order as revisions_in_order, bound_back, analysis_back, open_analysis}
use Rattle.canary_tables_contents.proofs.BoundWholly.{neither}
use Rattle.canary_tables_contents.proofs.InOrder.{filter_twice, filter_map_of, same_one, rises, same_order, none_below}
use Rattle.canary_tables_contents.proofs.Numbered.{both_in_turn, other_first, either_order, filters_swap, find_first, Follow, follow_above, follow_rises, key_at, at_place, all_filter, rise_filter, rise_map, by_place, map_both, map_then}

abbrev metric_in : TallyRow → ℕ
metric_in row = row.metric

abbrev number_in : RunRow → ℕ
number_in row = row.number

abbrev run_number : Run → ℕ
run_number r = r.number

-- Tallies.

-- the rows of a run's lists, in order
tallies_from : List ℕ → ℕ → ℕ → List (List Recorded) → List TallyRow
tallies_from name run metric [] = []
tallies_from name run metric (list ∷ lists) = tally_row name run metric (counts_of list) ∷ tallies_from name run (suc metric) lists

tallies_follow : (name : List ℕ) (run k : ℕ) (lists : List (List Recorded)) → Follow metric_in k (tallies_from name run k lists)
unfolding tallies_from
tallies_follow name run k [] = tt
tallies_follow name run k (list ∷ lists) = (refl, tallies_follow name run (suc k) lists)

tally_at : (name : List ℕ) (run k j : ℕ) (lists : List (List Recorded)) → row_if (λ list. tally_row name run (j + k) (counts_of list)) (slice_get lists j) ≡ optional (slice_get (tallies_from name run k lists) j)
unfolding tallies_from
tally_at name run k j [] = refl
tally_at name run k zero (list ∷ lists) = ap (λ m. tally_row name run m (counts_of list) ∷ []) (let e : zero + k ≡ k = omega arith in e)
tally_at name run k (suc j) (list ∷ lists) = ap (λ m. row_if (λ list. tally_row name run m (counts_of list)) (slice_get lists j)) (let e : suc j + k ≡ j + suc k = omega arith in e) ∙ tally_at name run (suc k) j lists

counts_from : (name : List ℕ) (run k : ℕ) (lists : List (List Recorded)) → map (λ (row : TallyRow). row.counts) (tallies_from name run k lists) ≡ map counts_of lists
unfolding tallies_from
counts_from name run k [] = refl
counts_from name run k (list ∷ lists) = ap (λ (cs : List Counts). counts_of list ∷ cs) (counts_from name run (suc k) lists)

abbrev lists_of : Option Run → List (List Recorded)
lists_of None = []
lists_of (Some r) = r.lists

no_tally : (name : List ℕ) (run k j : ℕ) → [] ≡ optional (slice_get (tallies_from name run k []) j)
unfolding tallies_from
no_tally name run k j = refl

tallies_at : (name : List ℕ) (run metric : ℕ) (o : Option Run) → tally_rows_of name run metric o ≡ optional (slice_get (tallies_from name run 0 (lists_of o)) metric)
tallies_at name run metric None = no_tally name run 0 metric
tallies_at name run metric (Some r) = ap (λ m. row_if (λ list. tally_row name run m (counts_of list)) (slice_get r.lists metric)) (let e : metric ≡ metric + 0 = omega arith in e) ∙ tally_at name run 0 metric r.lists

-- rows in order, of which these stand under each metric
tallies_in_order : (name : List ℕ) (run : ℕ) (all rows : List TallyRow) (o : Option Run) → ((metric : ℕ) → filter (is_tally name run metric) all ≡ tally_rows_of name run metric o)
    → IsPermutation (filter (is_tally_of name run) all) rows → AscendByMetric rows → rows ≡ tallies_from name run 0 (lists_of o)
tallies_in_order name run all rows o are moved ascend =
    let wanted : List TallyRow = tallies_from name run 0 (lists_of o) in
    let follow : Follow metric_in 0 wanted = tallies_follow name run 0 (lists_of o) in
    same_order metric_in rows wanted (rises metric_in rows ascend) (follow_rises metric_in 0 wanted follow) (λ m.
    let there : filter (λ row. m == metric_in row) (filter (is_tally_of name run) all) ≡ optional (slice_get wanted m) =
    filter_twice (λ row. m == metric_in row) (is_tally_of name run) all
    ∙ filter_agree (λ (row : TallyRow). is_tally_of name run row && (m == metric_in row)) (is_tally name run m) (λ row. both_in_turn (bytes_eq name row.service) (run == row.run) (m == row.metric)) all
    ∙ are m ∙ tallies_at name run m o in
    same_one (λ row. m == metric_in row) (filter (is_tally_of name run) all) rows (slice_get wanted m) moved there
    ∙ sym (ap (λ n. filter (λ row. n == metric_in row) wanted) (let e : m ≡ m + 0 = omega arith in e) ∙ at_place metric_in 0 m wanted follow))

-- Runs by their numbers.

follows : (k : ℕ) (rs : List Run) → AreNumbered k rs → Follow run_number k rs
follows k [] are = tt
follows k (r ∷ rs) are = (are.0, follows (suc k) rs are.1)

under_number : (number : ℕ) (rs : List Run) → Follow run_number 1 rs → filter (λ r. number == run_number r) rs ≡ optional (run_at number rs)
under_number zero rs f = none_below run_number zero rs (follow_above run_number zero 1 rs (omega arith) f)
under_number (suc place) rs f = ap (λ n. filter (λ r. n == run_number r) rs) (let e : suc place ≡ place + 1 = omega arith in e) ∙ at_place run_number 1 place rs f

the_one : {A : Type 0} (o : Option A) → slice_get (optional o) 0 ≡ o
the_one None = refl
the_one (Some x) = refl

find_run : (number : ℕ) (rs : List Run) → Follow run_number 1 rs → find (is_numbered number) rs ≡ run_at number rs
find_run number rs f =
    find_first (is_numbered number) rs
    ∙ ap (λ (ys : List Run). slice_get ys 0) (filter_agree (is_numbered number) (λ r. number == run_number r) (λ r. either_order r.number number) rs ∙ under_number number rs f)
    ∙ the_one (run_at number rs)

in_order : (templates : RevisionMap) (name : List ℕ) (o : Option ModelService) → ((s : ModelService) → o ≡ Some s → IsInOrder templates name s) → Follow run_number 1 (past_in o).runs
in_order templates name None is = tt
in_order templates name (Some s) is = follows 1 s.past.runs (is s refl).numbered

numbered : (t : Tables) → HoldsContents t → (name : List ℕ) → Follow run_number 1 (past_of (contents_of t) name).runs
numbered t holds name = let c : Contents = contents_of t in in_order c.desk.templates name (get c.desk.services name) (holds.lawful.desk.services name)

run_is : (t : Tables) → HoldsContents t → (name : List ℕ) (number : ℕ) → run_of (contents_of t) name number ≡ option_map record_of (run_at number (past_of (contents_of t) name).runs)
run_is t holds name number = ap (option_map record_of) (find_run number (past_of (contents_of t) name).runs (numbered t holds name))

tallies_if : (o : Option Run) → map counts_of (lists_of o) ≡ tallies_told (option_map record_of o)
tallies_if None = refl
tallies_if (Some r) = refl

tallies_are : (t : Tables) → HoldsContents t → (name : List ℕ) (number : ℕ) → map counts_of (lists_of (run_at number (past_of (contents_of t) name).runs)) ≡ tallies_of (contents_of t) name number
tallies_are t holds name number = tallies_if (run_at number (past_of (contents_of t) name).runs) ∙ ap tallies_told (sym (run_is t holds name number))

pub tallies_are_found : TalliesAreFound
tallies_are_found t holds name run rows moved ascend =
    let o : Option Run = run_at run (past_of (contents_of t) name).runs in
    ap (map (λ (row : TallyRow). row.counts)) (tallies_in_order name run t.tallies rows o (holds.rows.tallies name run) moved ascend)
    ∙ counts_from name run 0 (lists_of o) ∙ tallies_are t holds name run

if_comes : {A B R : Type 0} (row : A → R) (reads : R → Option B) (comes : A → B) (o : Option A) → ((x : A) → o ≡ Some x → reads (row x) ≡ Some (comes x)) → IsFound reads (first_row (row_if row o)) (option_map comes o)
if_comes row reads comes None back = record { value = refl; read = refl }
if_comes row reads comes (Some x) back = record { value = back x refl; read = ap Some (back x refl) }

-- one row or none, which is read as what comes of what there is
found_as : {A B R : Type 0} (row : A → R) (reads : R → Option B) (comes : A → B) (rows : List R) (o : Option A) → rows ≡ row_if row o → ((x : A) → o ≡ Some x → reads (row x) ≡ Some (comes x)) → IsFound reads (first_row rows) (option_map comes o)
found_as row reads comes rows o are back = subst (λ rs. IsFound reads (first_row rs) (option_map comes o)) (sym are) (if_comes row reads comes o back)

run_has : (P : Run → Type 0) (rs : List Run) → AllByRecursion P rs → (number : ℕ) (r : Run) → run_at number rs ≡ Some r → P r
run_has P rs all zero r e = absurd (cc)
run_has P rs all (suc place) r e = all_at P rs all place r e

-- the strategy by a service's row is that of the service
strategy_back : (name : List ℕ) (m : ModelService) → IsReadableCommand (command.Service m.made) → strategy_by (Some (service_row name m)) ≡ Some (strategy_of m.made)
strategy_back name m readable = ap (λ o. option_map strategy_of (made_from o)) readable

-- a service whose row has this strategy is there
record HasStrategy (found : Option ModelService) (strategy : CheckedStrategy) : Type 0 where
  service : ModelService
  there : found ≡ Some service
  is : strategy_of service.made ≡ strategy

by_strategy : (name : List ℕ) (found : Option ModelService) (strategy : CheckedStrategy) → ((m : ModelService) → found ≡ Some m → IsReadableCommand (command.Service m.made)) → strategy_by (first_row (row_if (service_row name) found)) ≡ Some strategy → HasStrategy found strategy
by_strategy name None strategy readable e = absurd (cc)
by_strategy name (Some m) strategy readable e =
    let same : Some (strategy_of m.made) ≡ Some strategy = sym (strategy_back name m (readable m refl)) ∙ e in
    record { service = m; there = refl; is = cc same }

-- the analysis of a run, by its row
run_analysis : (t : Tables) → HoldsContents t → (name : List ℕ) (strategy : CheckedStrategy) → HasStrategy (get (contents_of t).desk.services name) strategy → (place : ℕ) (r : Run) → slice_get (past_of (contents_of t) name).runs place ≡ Some r
    → analysis_by t strategy (run_row name r) ≡ r.analysis
run_analysis t holds name strategy has place r e =
    let c : Contents = contents_of t in
    let m : ModelService = has.service in
    let order : IsInOrder c.desk.templates name m = holds.lawful.desk.services name m has.there in
    let at : slice_get m.past.runs place ≡ Some r = ap (λ o. slice_get (past_in o).runs place) (sym has.there) ∙ e in
    let is : IsRun c.desk.templates m r = all_at (IsRun c.desk.templates m) m.past.runs order.runs place r at in
    let number : r.number ≡ suc place = (let n : r.number ≡ place + 1 = key_at run_number 1 m.past.runs (follows 1 m.past.runs order.numbered) place r at in omega arith) in
    (λ i. analysis_or_none (bound_of (known_in t name (number i)) (sym has.is i)) r.step) ∙ analysis_back t c holds.rows holds.readable holds.lawful name m has.there place r at is

run_analysis_at : (t : Tables) → HoldsContents t → (name : List ℕ) (strategy : CheckedStrategy) → HasStrategy (get (contents_of t).desk.services name) strategy → (number : ℕ) (r : Run) → run_at number (past_of (contents_of t) name).runs ≡ Some r
    → analysis_by t strategy (run_row name r) ≡ r.analysis
run_analysis_at t holds name strategy has zero r e = absurd (cc)
run_analysis_at t holds name strategy has (suc place) r e = run_analysis t holds name strategy has place r e

pub runs_are_found : RunsAreFound
runs_are_found t holds name number strategy there =
    let c : Contents = contents_of t in
    let rs : List Run = (past_of c name).runs in
    let tallies : List Counts = tallies_of c name number in
    let reads : RunRow → Option RunRecord = λ row. record_of_row (analysis_by t strategy row) tallies row in
    let has : HasStrategy (get c.desk.services name) strategy = by_strategy name (get c.desk.services name) strategy (holds.readable.made name) (ap (λ rows. strategy_by (first_row rows)) (sym (holds.rows.services name)) ∙ there) in
    let found : IsFound reads (first_row (filter (is_run name number) t.runs)) (option_map record_of (run_at number rs)) =
    found_as (run_row name) reads record_of _ (run_at number rs) (holds.rows.runs name number) (λ r e.
    let these : tallies ≡ map counts_of r.lists = sym (ap (λ o. map counts_of (lists_of o)) (sym e) ∙ tallies_are t holds name number) in
    let analysis : analysis_by t strategy (run_row name r) ≡ r.analysis = run_analysis_at t holds name strategy has number r e in
    ap (option_map (record_closed (run_row name r) (analysis_by t strategy (run_row name r)) tallies)) (closing_back r.number r.closed (run_has IsReadableRun rs (holds.readable.pasts name).runs number r e))
    ∙ (λ i. Some (record (record_of r) { analysis = analysis i; tallies = these i }))) in
    subst (IsFound reads (first_row (filter (is_run name number) t.runs))) (sym (run_is t holds name number)) found

none_by : (name : List ℕ) (found : Option ModelService) → first_row (row_if (service_row name) found) ≡ None → found ≡ None
none_by name None e = refl
none_by name (Some m) e = absurd (cc)

pub runs_have_services : RunsHaveServices
runs_have_services t holds name number there =
    let c : Contents = contents_of t in
    let none : get c.desk.services name ≡ None = none_by name (get c.desk.services name) (ap first_row (sym (holds.rows.services name)) ∙ there) in
    ap (λ o. record_numbered (past_in o) number) none

-- Open runs.

abbrev open_only : Option Run → Option Run
open_only None = None
open_only (Some r) = cond (is_open r) (Some r) None

still_open : (closed : Option Closing) → is_none (ending_of closed).closed ≡ is_none closed
still_open None = refl
still_open (Some x) = refl

cut_one : {A B : Type 0} (f : A → B) (x : A) (b : Bool) → cond b (f x ∷ []) [] ≡ optional (option_map f (cond b (Some x) None))
cut_one f x true = refl
cut_one f x false = refl

open_row : (name : List ℕ) (o : Option Run) → filter (λ (row : RunRow). is_none row.ending.closed) (row_if (run_row name) o) ≡ optional (option_map (run_row name) (open_only o))
open_row name None = refl
open_row name (Some r) = ap (λ b. cond b (run_row name r ∷ []) []) (still_open r.closed) ∙ cut_one (run_row name) r (is_open r)

map_cut : (name : List ℕ) (r : Run) (b : Bool) → map (run_row name) (cond b (r ∷ []) []) ≡ optional (option_map (run_row name) (cond b (Some r) None))
map_cut name r true = refl
map_cut name r false = refl

open_run : (name : List ℕ) (o : Option Run) → map (run_row name) (filter is_open (optional o)) ≡ optional (option_map (run_row name) (open_only o))
open_run name None = refl
open_run name (Some r) = map_cut name r (is_open r)

runs_in_order : (name : List ℕ) (all rows : List RunRow) (rs : List Run) → ((number : ℕ) → filter (is_run name number) all ≡ row_if (run_row name) (run_at number rs)) → Follow run_number 1 rs
    → IsPermutation (filter (is_open_run_of name) all) rows → AscendByNumber rows → rows ≡ map (run_row name) (filter is_open rs)
runs_in_order name all rows rs are follow moved ascend =
    let wanted : List RunRow = map (run_row name) (filter is_open rs) in
    same_order number_in rows wanted (rises number_in rows ascend) (rise_map number_in (run_row name) (filter is_open rs) (rise_filter run_number is_open rs (follow_rises run_number 1 rs follow))) (λ n.
    let o : Option RunRow = option_map (run_row name) (open_only (run_at n rs)) in
    let is_it : RunRow → Bool = λ row. n == number_in row in
    let is_now : RunRow → Bool = λ row. is_none row.ending.closed in
    let there : filter is_it (filter (is_open_run_of name) all) ≡ optional o =
    filter_twice is_it (is_open_run_of name) all
    ∙ filter_agree (λ (row : RunRow). is_open_run_of name row && is_it row) (λ row. is_run name n row && is_now row) (λ row. other_first (bytes_eq name row.service) (is_now row) (is_it row)) all
    ∙ sym (filter_twice is_now (is_run name n) all)
    ∙ ap (filter is_now) (are n) ∙ open_row name (run_at n rs) in
    let here : filter is_it wanted ≡ optional o =
    filter_map_of (run_row name) is_it (filter is_open rs)
    ∙ ap (map (run_row name)) (filters_swap (λ r. n == run_number r) is_open rs ∙ ap (filter is_open) (under_number n rs follow)) ∙ open_run name (run_at n rs) in
    same_one is_it (filter (is_open_run_of name) all) rows o moved there ∙ sym here)

-- a run that is tracked, of the analysis that is bound at its step
abbrev tallied_by : BoundParts → Run → OpenRun
tallied_by bound r = with_analysis bound (tallied r)

run_told : (t : Tables) → HoldsContents t → (name : List ℕ) (bound : BoundParts) (i : ℕ) (r : Run) → slice_get (past_of (contents_of t) name).runs i ≡ Some r → open_run_of bound (contents_of t) name (run_row name r) ≡ tallied_by bound r
run_told t holds name bound i r e =
    let rs : List Run = (past_of (contents_of t) name).runs in
    let number : r.number ≡ suc i = (let n : r.number ≡ i + 1 = key_at run_number 1 rs (numbered t holds name) i r e in omega arith) in
    let at : run_at r.number rs ≡ Some r = ap (λ n. run_at n rs) number ∙ e in
    let tallies : tallies_of (contents_of t) name r.number ≡ map counts_of r.lists = sym (ap (λ o. map counts_of (lists_of o)) (sym at) ∙ tallies_are t holds name r.number) in
    λ i. record (tallied_by bound r) { tallies = tallies i }

pub open_runs_are_found : OpenRunsAreFound
open_runs_are_found t holds name bound rows moved ascend =
    let c : Contents = contents_of t in
    let rs : List Run = (past_of c name).runs in
    let P : Run → Type 0 = λ r. open_run_of bound c name (run_row name r) ≡ tallied_by bound r in
    ap (map (open_run_of bound c name)) (runs_in_order name t.runs rows rs (holds.rows.runs name) (numbered t holds name) moved ascend)
    ∙ map_both (open_run_of bound c name) (run_row name) (tallied_by bound) (filter is_open rs) (all_filter is_open P rs (by_place P rs (run_told t holds name bound)))
    ∙ sym (map_then (with_analysis bound) tallied (filter is_open rs))

-- by what a service is bound to they are those that are watched
own_open_runs : (templates : RevisionMap) (name : List ℕ) (m : ModelService) → ((q : List ℕ) → AreRevisions q 1 (revisions_of templates q)) → IsInOrder templates name m → map (with_analysis m.service.bound) (tracked m.past).open_runs ≡ (tracked m.past).open_runs
own_open_runs templates name m are order =
    let bound : BoundParts = m.service.bound in
    let open_runs : List Run = filter is_open m.past.runs in
    let P : Run → Type 0 = λ r. tallied_by bound r ≡ tallied r in
    let same : list_any (has_other_revisions m.service) (map tallied open_runs) ≡ false = (fit_of (stored_form m) order.parts).0.same in
    map_both (with_analysis bound) tallied tallied open_runs (each open_runs (all_filter is_open (IsRun templates m) m.past.runs order.runs) same)
  where
    each : (rs : List Run) → AllByRecursion (IsRun templates m) rs → list_any (has_other_revisions m.service) (map tallied rs) ≡ false → AllByRecursion (λ (r : Run). tallied_by m.service.bound r ≡ tallied r) rs
    each [] runs same = tt
    each (r ∷ rs) runs same =
        let parts = neither (has_other_revisions m.service (tallied r)) (list_any (has_other_revisions m.service) (map tallied rs)) same in
        let analysis : analysis_or_none m.service.bound r.step ≡ r.analysis = open_analysis templates m r are order.bound runs.0 parts.0 in
        (λ i. record (tallied r) { analysis = analysis i }, each rs runs.1 parts.1)

-- Services.

pub services_are_found : ServicesAreFound
services_are_found t holds name =
    let c : Contents = contents_of t in
    let known : Templates = known_in t name 0 in
    let open_runs : BoundParts → List OpenRun = open_runs_by c name in
    found_as (service_row name) (parts_of_row known open_runs) stored_form _ (get c.desk.services name) (holds.rows.services name) (λ m e.
    let order : IsInOrder c.desk.templates name m = holds.lawful.desk.services name m e in
    let row : ServiceRow = service_row name m in
    let strategy : CheckedStrategy = strategy_of m.made in
    let bound : BoundParts = bound_of known strategy in
    let to : m.service.bound ≡ bound = bound_back t c holds.rows holds.readable holds.lawful name m e in
    let runs : open_runs bound ≡ (tracked m.past).open_runs =
    (λ i. map (with_analysis (sym to i)) (tracked (past_in (e i))).open_runs) ∙ own_open_runs c.desk.templates name m (revisions_in_order c holds.lawful) order in
    ap (λ (o : Option Command). option_and_then (parts_made known open_runs row) (made_from o)) (holds.readable.made name m e)
    ∙ ap (option_map (parts_standing row (open_runs bound))) (stand_back name strategy bound m.service (length m.past.runs) order.shown order.strategy to)
    ∙ (λ i. Some (record { service = m.service; runs = record { count = length m.past.runs; open_runs = runs i } })))
