-- A run is opened: what this makes of the rows of a past.
use Rattle.std.proofs.Common.{◌≡◌, ℕ, zero, suc, ◌+◌, ◌<◌, List, [], ◌∷◌, ◌++◌, length, Bool, true, false, refl, ap, sym, ◌∙◌, subst, arith, eqb-true, eq-eqb, true≢false, append-nil, append_assoc}
use Rattle.std.specs.Prelude.{◌==◌, ◌&&◌, cond, filter, find, replicate, Option, slice_get}
use Rattle.std.specs.Str.{bytes_eq}
use Rattle.std.proofs.lemmas.List.Elements.{filter-append}
use Rattle.canary_metric.specs.Counts.{counts}
use Rattle.canary_plan.specs.declared.strategy.CheckedStrategy.{CheckedStrategy}
use Rattle.canary_plan.specs.Plans.{distinct}
use Rattle.canary_release.specs.declared.effect.Opening.{Opening}
use Rattle.canary_release.specs.declared.effect.Recorded.{Recorded}
use Rattle.canary_release.specs.declared.effect.Effect.TheVariants.{RunOpened}
use Rattle.canary_release.specs.Effects.{Opens}
use Rattle.canary_release.specs.Order.{AreNumbered}
use Rattle.canary_release.specs.Desks.{RevisionMap}
use Rattle.canary_release.specs.Pasts.{Run, Past, opened_run, counts_of, tracked}
use Rattle.canary_tables_rows.specs.declared.rows.RunRow.{RunRow}
use Rattle.canary_tables_rows.specs.declared.rows.TallyRow.{TallyRow}
use Rattle.canary_tables_rows.specs.declared.rows.BindingRow.{BindingRow}
use Rattle.canary_tables_rows.specs.Tables.{Tables, is_binding, is_run, is_tally}
use Rattle.canary_tables_rows.specs.Changes.{with_run, with_tally}
use Rattle.canary_tables_contents.specs.Values.{binding_row, run_row, tally_row}
use Rattle.canary_tables_contents.specs.Tables.{row_if, is_of_template, revisions_of_run, run_rows, tally_rows, tally_rows_of}
use Rattle.canary_tables_contents.specs.Settling.{run_opened}
use Rattle.canary_tables_rows.specs.Changes.{tallies_opened}
use Rattle.canary_tables_contents.proofs.PastRows.{bound_rows, ArePastRows, AreOthersRows, AreElseSame}
use Rattle.canary_tables_contents.proofs.BindingsPut.{with_bindings, new_bindings, bound_one_by_one, new_under}
use Rattle.canary_tables_contents.proofs.Filters.{own_name, not_both, fails_more}
use Rattle.canary_tables_contents.proofs.RunsAt.{numbered_and_more, run_at_last, no_run_yet, run_at_other}
use Rattle.canary_tables_contents.proofs.OneHappens.{OneHappens}

-- The tables with a run opened: one row more of runs, and a tally a metric.

abbrev none_measured : List ℕ → ℕ → ℕ → TallyRow
none_measured name run metric = tally_row name run metric (counts [])

abbrev new_tallies : List ℕ → ℕ → ℕ → ℕ → List TallyRow
new_tallies name run metric zero = []
new_tallies name run metric (suc n) = none_measured name run metric ∷ new_tallies name run (suc metric) n

abbrev with_tallies : List TallyRow → Tables → Tables
with_tallies rows t = record t { tallies = t.tallies ++ rows }

opened_one_by_one : (name : List ℕ) (run metric n : ℕ) (t : Tables) → tallies_opened name run metric n t ≡ with_tallies (new_tallies name run metric n) t
opened_one_by_one name run metric zero t = λ i. record t { tallies = sym (append-nil t.tallies) i }
opened_one_by_one name run metric (suc n) t =
    let first : TallyRow = none_measured name run metric in
    opened_one_by_one name run (suc metric) n (with_tally first t)
    ∙ (λ i. record t { tallies = append_assoc t.tallies (first ∷ []) (new_tallies name run (suc metric) n) i })

-- how many metrics a run has that is opened
abbrev metrics_in : Opening → ℕ
metrics_in x = length x.analysis.metrics

abbrev after_opening : List ℕ → Opening → Tables → Tables
after_opening name x t = with_bindings (new_bindings name x.run (distinct x.analysis.revisions)) (with_tallies (new_tallies name x.run 0 (metrics_in x)) (with_run (run_row name (opened_run x)) t))

opening : (name : List ℕ) (x : Opening) (t : Tables) → run_opened name x t ≡ after_opening name x t
opening name x t =
    bound_one_by_one name x.run (distinct x.analysis.revisions) (tallies_opened name x.run 0 (metrics_in x) (with_run (run_row name (opened_run x)) t))
    ∙ ap (with_bindings (new_bindings name x.run (distinct x.analysis.revisions))) (opened_one_by_one name x.run 0 (metrics_in x) (with_run (run_row name (opened_run x)) t))

-- The run's row.

own_row : (name : List ℕ) (number : ℕ) (r : Run) → filter (is_run name number) (run_row name r ∷ []) ≡ cond (number == r.number) (run_row name r ∷ []) []
own_row name number r = ap (λ b. cond (b && (number == r.number)) (run_row name r ∷ []) []) (own_name name)

run_pushed : (name : List ℕ) (number : ℕ) (r : Run) (runs : List Run) (t : Bool) → r.number ≡ length runs + 1 → (number == r.number) ≡ t
    → run_rows name number runs ++ cond t (run_row name r ∷ []) [] ≡ run_rows name number (runs ++ r ∷ [])
run_pushed name number r runs true last e =
    let here : number ≡ length runs + 1 = eqb-true number r.number e ∙ last in
    ap (λ o. row_if (run_row name) o ++ run_row name r ∷ []) (no_run_yet runs number here)
    ∙ sym (ap (row_if (run_row name)) (run_at_last runs r number here))
run_pushed name number r runs false last e =
    append-nil (run_rows name number runs)
    ∙ sym (ap (row_if (run_row name)) (run_at_other runs r number (λ here. true≢false (sym (eq-eqb number r.number (here ∙ sym last)) ∙ e))))

run_rows_more : (name : List ℕ) (number : ℕ) (r : Run) (runs : List Run) (rows : List RunRow) → r.number ≡ length runs + 1 → filter (is_run name number) rows ≡ run_rows name number runs
    → filter (is_run name number) (rows ++ run_row name r ∷ []) ≡ run_rows name number (runs ++ r ∷ [])
run_rows_more name number r runs rows last are =
    filter-append (is_run name number) rows (run_row name r ∷ [])
    ∙ (λ i. are i ++ own_row name number r i)
    ∙ run_pushed name number r runs (number == r.number) last refl

-- Its tallies.

-- those of later metrics are not under this one
none_before : (name : List ℕ) (number run metric from n : ℕ) → metric < from → filter (is_tally name number metric) (new_tallies name run from n) ≡ []
none_before name number run metric from zero below = refl
none_before name number run metric from (suc n) below =
    let apart : metric ≡ from → ⊥ = λ same. absurd (omega (arith, below, same)) in
    let rest : List TallyRow = filter (is_tally name number metric) (new_tallies name run (suc from) n) in
    let first : TallyRow = none_measured name run from in
    ap (λ b. cond (bytes_eq name name && ((number == run) && b)) (first ∷ rest) rest) (not_both metric from apart)
    ∙ never (bytes_eq name name) (number == run) (first ∷ rest) rest
    ∙ none_before name number run metric (suc from) n (omega (arith, below))
  where
    never : (a b : Bool) (xs ys : List TallyRow) → cond (a && (b && false)) xs ys ≡ ys
    never true true xs ys = refl
    never true false xs ys = refl
    never false b xs ys = refl

-- none is under the number of another run
none_of_other : (name : List ℕ) (number run metric from n : ℕ) → (number == run) ≡ false → filter (is_tally name number metric) (new_tallies name run from n) ≡ []
none_of_other name number run metric from zero e = refl
none_of_other name number run metric from (suc n) e =
    let rest : List TallyRow = filter (is_tally name number metric) (new_tallies name run (suc from) n) in
    let first : TallyRow = none_measured name run from in
    ap (λ b. cond (b && ((number == run) && (metric == from))) (first ∷ rest) rest) (own_name name)
    ∙ ap (λ b. cond (b && (metric == from)) (first ∷ rest) rest) e
    ∙ none_of_other name number run metric (suc from) n e

-- nor under the name of another service
none_of_name : (q name : List ℕ) (number run metric from n : ℕ) → bytes_eq q name ≡ false → filter (is_tally q number metric) (new_tallies name run from n) ≡ []
none_of_name q name number run metric from zero e = refl
none_of_name q name number run metric from (suc n) e =
    let rest : List TallyRow = filter (is_tally q number metric) (new_tallies name run (suc from) n) in
    let first : TallyRow = none_measured name run from in
    ap (λ b. cond (b && ((number == run) && (metric == from))) (first ∷ rest) rest) e
    ∙ none_of_name q name number run metric (suc from) n e

abbrev rows_of_lists : List ℕ → ℕ → ℕ → Option (List Recorded) → List TallyRow
rows_of_lists name run metric o = row_if (λ list. tally_row name run metric (counts_of list)) o

-- each stands under its metric
each_under : (name : List ℕ) (run metric from k n : ℕ) → metric ≡ k + from → filter (is_tally name run metric) (new_tallies name run from n) ≡ rows_of_lists name run metric (slice_get (replicate n []) k)
each_under name run metric from k zero e = refl
each_under name run metric from zero (suc n) e =
    let same : metric ≡ from = omega (arith, e) in
    let rest : List TallyRow = filter (is_tally name run metric) (new_tallies name run (suc from) n) in
    let first : TallyRow = none_measured name run from in
    ap (λ b. cond (b && ((run == run) && (metric == from))) (first ∷ rest) rest) (own_name name)
    ∙ ap (λ b. cond (b && (metric == from)) (first ∷ rest) rest) (eq-eqb run run refl)
    ∙ ap (λ b. cond b (first ∷ rest) rest) (eq-eqb metric from same)
    ∙ (λ i. none_measured name run (sym same i) ∷ none_before name run run metric (suc from) n (omega (arith, same)) i)
each_under name run metric from (suc k) (suc n) e =
    let apart : metric ≡ from → ⊥ = λ same. absurd (omega (arith, e, same)) in
    let rest : List TallyRow = filter (is_tally name run metric) (new_tallies name run (suc from) n) in
    let first : TallyRow = none_measured name run from in
    ap (λ b. cond (b && ((run == run) && (metric == from))) (first ∷ rest) rest) (own_name name)
    ∙ ap (λ b. cond (b && (metric == from)) (first ∷ rest) rest) (eq-eqb run run refl)
    ∙ ap (λ b. cond b (first ∷ rest) rest) (not_both metric from apart)
    ∙ each_under name run metric (suc from) k n (omega (arith, e))

tallies_pushed : (name : List ℕ) (number metric : ℕ) (x : Opening) (runs : List Run) (t : Bool) → x.run ≡ length runs + 1 → (number == x.run) ≡ t
    → tally_rows name number metric runs ++ filter (is_tally name number metric) (new_tallies name x.run 0 (metrics_in x)) ≡ tally_rows name number metric (runs ++ opened_run x ∷ [])
tallies_pushed name number metric x runs true last e =
    let same : number ≡ x.run = eqb-true number x.run e in
    let here : number ≡ length runs + 1 = same ∙ last in
    let place : metric ≡ metric + 0 = omega arith in
    ap (λ o. tally_rows_of name number metric o ++ filter (is_tally name number metric) (new_tallies name x.run 0 (metrics_in x))) (no_run_yet runs number here)
    ∙ ap (λ n. filter (is_tally name number metric) (new_tallies name n 0 (metrics_in x))) (sym same)
    ∙ each_under name number metric 0 metric (metrics_in x) place
    ∙ sym (ap (tally_rows_of name number metric) (run_at_last runs (opened_run x) number here))
tallies_pushed name number metric x runs false last e =
    ap (λ (rows : List TallyRow). tally_rows name number metric runs ++ rows) (none_of_other name number x.run metric 0 (metrics_in x) e)
    ∙ append-nil (tally_rows name number metric runs)
    ∙ sym (ap (tally_rows_of name number metric) (run_at_other runs (opened_run x) number (λ here. true≢false (sym (eq-eqb number x.run (here ∙ sym last)) ∙ e))))

tally_rows_more : (name : List ℕ) (number metric : ℕ) (x : Opening) (runs : List Run) (rows : List TallyRow) → x.run ≡ length runs + 1 → filter (is_tally name number metric) rows ≡ tally_rows name number metric runs
    → filter (is_tally name number metric) (rows ++ new_tallies name x.run 0 (metrics_in x)) ≡ tally_rows name number metric (runs ++ opened_run x ∷ [])
tally_rows_more name number metric x runs rows last are =
    filter-append (is_tally name number metric) rows (new_tallies name x.run 0 (metrics_in x))
    ∙ ap (λ (old : List TallyRow). old ++ filter (is_tally name number metric) (new_tallies name x.run 0 (metrics_in x))) are
    ∙ tallies_pushed name number metric x runs (number == x.run) last refl

-- Its bindings.

bindings_pushed : (name : List ℕ) (number : ℕ) (template : List ℕ) (x : Opening) (runs : List Run) (t : Bool) → x.run ≡ length runs + 1 → (number == x.run) ≡ t
    → bound_rows name number template runs ++ cond t (row_if (binding_row name x.run) (find (is_of_template template) x.analysis.revisions)) [] ≡ bound_rows name number template (runs ++ opened_run x ∷ [])
bindings_pushed name number template x runs true last e =
    let same : number ≡ x.run = eqb-true number x.run e in
    let here : number ≡ length runs + 1 = same ∙ last in
    let rows : Option Run → List BindingRow = λ o. row_if (binding_row name number) (find (is_of_template template) (revisions_of_run o)) in
    ap (λ o. rows o ++ row_if (binding_row name x.run) (find (is_of_template template) x.analysis.revisions)) (no_run_yet runs number here)
    ∙ ap (λ n. row_if (binding_row name n) (find (is_of_template template) x.analysis.revisions)) (sym same)
    ∙ sym (ap rows (run_at_last runs (opened_run x) number here))
bindings_pushed name number template x runs false last e =
    append-nil (bound_rows name number template runs)
    ∙ sym (ap (λ o. row_if (binding_row name number) (find (is_of_template template) (revisions_of_run o))) (run_at_other runs (opened_run x) number (λ here. true≢false (sym (eq-eqb number x.run (here ∙ sym last)) ∙ e))))

bindings_more : (name : List ℕ) (number : ℕ) (template : List ℕ) (x : Opening) (runs : List Run) (rows : List BindingRow) → x.run ≡ length runs + 1 → filter (is_binding name number template) rows ≡ bound_rows name number template runs
    → filter (is_binding name number template) (rows ++ new_bindings name x.run (distinct x.analysis.revisions)) ≡ bound_rows name number template (runs ++ opened_run x ∷ [])
bindings_more name number template x runs rows last are =
    filter-append (is_binding name number template) rows (new_bindings name x.run (distinct x.analysis.revisions))
    ∙ (λ i. are i ++ new_under name name number x.run template x.analysis.revisions true (number == x.run) (own_name name) refl i)
    ∙ bindings_pushed name number template x runs (number == x.run) last refl

-- no row of another service, or of a present attempt
bindings_other : (q name : List ℕ) (number : ℕ) (template : List ℕ) (x : Opening) (rows : List BindingRow) (b c : Bool) → bytes_eq q name ≡ b → (number == x.run) ≡ c → (b && c) ≡ false
    → filter (is_binding q number template) (rows ++ new_bindings name x.run (distinct x.analysis.revisions)) ≡ filter (is_binding q number template) rows
bindings_other q name number template x rows b c e f none =
    filter-append (is_binding q number template) rows (new_bindings name x.run (distinct x.analysis.revisions))
    ∙ ap (λ (more : List BindingRow). filter (is_binding q number template) rows ++ more)
    (new_under q name number x.run template x.analysis.revisions b c e f ∙ ap (λ a. cond a (row_if (binding_row name x.run) (find (is_of_template template) x.analysis.revisions)) []) none)
    ∙ append-nil (filter (is_binding q number template) rows)

-- The whole effect.

opened_rows : (name : List ℕ) (x : Opening) (t : Tables) (p : Past) → x.run ≡ length p.runs + 1 → ArePastRows t name p → ArePastRows (after_opening name x t) name (record p { runs = p.runs ++ opened_run x ∷ [] })
opened_rows name x t p last are = record {
  runs = λ number. run_rows_more name number (opened_run x) p.runs t.runs last (are.runs number);
  bindings = λ place template. bindings_more name (suc place) template x p.runs t.bindings last (are.bindings place template);
  tallies = λ number metric. tally_rows_more name number metric x p.runs t.tallies last (are.tallies number metric);
  measurements = are.measurements;
  history = are.history;
}

opened_others : (name : List ℕ) (x : Opening) (t : Tables) (q : List ℕ) → bytes_eq q name ≡ false → AreOthersRows t (after_opening name x t) q
opened_others name x t q differ = record {
  runs = λ number. fails_more (is_run q number) t.runs (run_row name (opened_run x)) (ap (λ b. b && (number == x.run)) differ);
  bindings = λ place template. bindings_other q name (suc place) template x t.bindings false (suc place == x.run) differ refl refl;
  tallies = λ number metric.
      filter-append (is_tally q number metric) t.tallies (new_tallies name x.run 0 (metrics_in x))
      ∙ ap (λ (rows : List TallyRow). filter (is_tally q number metric) t.tallies ++ rows) (none_of_name q name number x.run metric 0 (metrics_in x) differ)
      ∙ append-nil (filter (is_tally q number metric) t.tallies);
  measurements = refl;
  history = refl;
}

and_never : (b : Bool) → (b && false) ≡ false
and_never true = refl
and_never false = refl

opened_rest : (name : List ℕ) (x : Opening) (t : Tables) → (x.run ≡ 0 → ⊥) → AreElseSame t (after_opening name x t)
opened_rest name x t some = record {
  callers = refl;
  kept = refl;
  revisions = refl;
  services = refl;
  attempts = λ q template. bindings_other q name 0 template x t.bindings (bytes_eq q name) false refl (not_both 0 x.run (λ e. some (sym e))) (and_never (bytes_eq q name));
}

pub opened_happens : (name : List ℕ) (templates : RevisionMap) (strategy : CheckedStrategy) (x : Opening) (t : Tables) (p : Past)
    → ArePastRows t name p → AreNumbered 1 p.runs → Opens templates strategy (tracked p) x → OneHappens name (RunOpened x) t p
opened_happens name templates strategy x t p are numbered opens =
    let tables : after_opening name x t ≡ run_opened name x t = sym (opening name x t) in
    let grown : Past = record p { runs = p.runs ++ opened_run x ∷ [] } in
    let last : x.run ≡ length p.runs + 1 = opens.number in
    record {
      rows = subst (λ (new : Tables). ArePastRows new name grown) tables (opened_rows name x t p last are);
      asks = tt;
      others = λ q differ. subst (λ (new : Tables). AreOthersRows t new q) tables (opened_others name x t q differ);
      rest = subst (AreElseSame t) tables (opened_rest name x t (λ none. absurd (omega (arith, last, none))));
      numbered = numbered_and_more 1 p.runs (opened_run x) numbered (omega (arith, last));
    }
