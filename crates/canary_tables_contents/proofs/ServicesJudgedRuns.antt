-- The runs of a service of contents, with their tallies, pass each test.
use Rattle.std.proofs.Common.{◌≡◌, inl, inr, ℕ, zero, suc, ◌+◌, ◌≤◌, List, [], ◌∷◌, length, Bool, true, false, Some, None, refl, sym, ap, ◌∙◌, subst, arith}
use Rattle.std.specs.Prelude.{Option, ◌==◌, ◌&&◌, cond, filter, find, map, slice_get, is_none}
use Rattle.std.specs.Str.{bytes_eq}
use Rattle.std.specs.List.{AllByRecursion, zip}
use Rattle.std.proofs.lemmas.List.Elements.{filter_agree}
use Rattle.canary_metric.specs.Counts.{counts}
use Rattle.canary_metric.specs.Verdicts.{verdict_of_counts}
use Rattle.canary_plan.specs.declared.analysis_parts.Revision.{Revision}
use Rattle.canary_plan.specs.declared.command.Command.TheVariants as command
use Rattle.canary_plan.specs.Plans.{strategy_of, bound_of, analysis_at, distinct}
use Rattle.canary_release.specs.declared.effect.Recorded.{Recorded}
use Rattle.canary_release.specs.declared.effect.Closing.{Closing}
use Rattle.canary_release.specs.Desks.{ModelService}
use Rattle.canary_release.specs.Order.{AreNumbered, known_by, IsRun, IsInOrder}
use Rattle.canary_release.specs.Pasts.{Run, measurement_of, counts_of, is_open, tallied}
use Rattle.canary_release.specs.Sound.{HasVerdict, IsSoundRun, verdict_on}
use Rattle.canary_once.specs.declared.record.RunRecord.{RunRecord}
use Rattle.canary_once.specs.Records.{record_of}
use Rattle.canary_tables_rows.specs.declared.rows.TallyRow.{TallyRow}
use Rattle.canary_tables_rows.specs.Tables.{Tables, is_binding, is_binding_of, is_run, is_tally, is_tally_of, is_measurement_of, is_line_of}
use Rattle.canary_tables_contents.specs.Values.{binding_row, run_row, tally_row, measurement_row, history_row}
use Rattle.canary_tables_contents.specs.Tables.{row_if, is_of_template, revisions_of_run, revisions_bound, binding_rows, run_at, run_rows, tally_rows_of, tally_rows, IsReadableCommand, IsReadableRun, IsReadablePast}
use Rattle.canary_tables_contents.specs.Reading.{known_in, contents_of}
use Rattle.canary_tables_contents.specs.Services.{HasVerdictBy, IsRunJudged, is_open_record, open_of_record, open_runs_in}
use Rattle.canary_tables_contents.proofs.Numbers.{is_numbered}
use Rattle.canary_tables_contents.proofs.Named.{filter_twice}
use Rattle.canary_tables_contents.proofs.JudgedCallers.{none_behind}
use Rattle.canary_tables_contents.proofs.CallersJudged.{HasPlace, has_place}
use Rattle.canary_tables_contents.proofs.KnownRevisions.{analysis_has_some}
use Rattle.canary_tables_contents.proofs.BindingRows.{number_of_bindings}
use Rattle.canary_tables_contents.proofs.ServicesJudgedRead.{IsBoundRun, bound_there}
use Rattle.canary_tables_contents.proofs.ServicesJudgedLists.{all_at, ComesOf, comes_of, just_numbers}

-- the rows of a service of contents, and what is known of it
pub record HasRows (t : Tables) (q : List ℕ) (m : ModelService) : Type 0 where
  pub bindings : (number : ℕ) (template : List ℕ) → filter (is_binding q number template) t.bindings ≡ binding_rows q number template (Some m)
  pub runs : (number : ℕ) → filter (is_run q number) t.runs ≡ run_rows q number m.past.runs
  pub tallies : (number metric : ℕ) → filter (is_tally q number metric) t.tallies ≡ tally_rows q number metric m.past.runs
  pub measurements : filter (is_measurement_of q) t.measurements ≡ map (measurement_row q) m.past.measurements
  pub history : filter (is_line_of q) t.history ≡ map (history_row q) m.past.history
  pub readable : IsReadablePast m.past
  pub made : IsReadableCommand (command.Service m.made)
  pub in_order : IsInOrder (contents_of t).desk.templates q m
  pub sound : AllByRecursion IsSoundRun m.past.runs
  pub read : AllByRecursion (IsBoundRun t q (strategy_of m.made)) m.past.runs

pub number_at : (n : ℕ) (runs : List Run) (place : ℕ) (r : Run) → AreNumbered n runs → slice_get runs place ≡ Some r → r.number ≡ place + n
number_at n [] place r h at = absurd (cc)
number_at n (q ∷ runs) zero r h at =
    let same : q ≡ r = cc at in
    let is : q.number ≡ n = h.0 in
    sym (ap (λ (x : Run). x.number) same) ∙ is ∙ (let e : n ≡ zero + n = omega arith in e)
number_at n (q ∷ runs) (suc place) r h at =
    let is : r.number ≡ place + suc n = number_at (suc n) runs place r h.1 at in
    omega (arith, is)

pub its_number : (runs : List Run) (place : ℕ) (r : Run) → AreNumbered 1 runs → slice_get runs place ≡ Some r → r.number ≡ suc place
its_number runs place r h at =
    let is : r.number ≡ place + 1 = number_at 1 runs place r h at in
    omega (arith, is)

-- How many tallies a run has.

abbrev pub tally_metric : TallyRow → ℕ
tally_metric row = row.metric

in_turn : (a b c : Bool) → (a && b) && c ≡ a && (b && c)
in_turn true b c = refl
in_turn false b c = refl

pub tallies_numbered : (q : List ℕ) (n k : ℕ) (rows : List TallyRow) → filter (is_numbered tally_metric k) (filter (is_tally_of q n) rows) ≡ filter (is_tally q n k) rows
tallies_numbered q n k rows = filter_twice (is_numbered tally_metric k) (is_tally_of q n) rows ∙ filter_agree (λ row. is_tally_of q n row && is_numbered tally_metric k row) (is_tally q n k) (λ row. in_turn (bytes_eq q row.service) (n == row.run) (k == row.metric)) rows

-- a run of a service, under its number
pub record StandsAt (t : Tables) (q : List ℕ) (m : ModelService) (r : Run) : Type 0 where
  pub there : run_at r.number m.past.runs ≡ Some r
  pub run : IsRun (contents_of t).desk.templates m r
  pub read : IsBoundRun t q (strategy_of m.made) r
  pub sound : IsSoundRun r
  pub readable : IsReadableRun r

pub stands_at : (t : Tables) (q : List ℕ) (m : ModelService) → HasRows t q m → (place : ℕ) (r : Run) → slice_get m.past.runs place ≡ Some r → StandsAt t q m r
stands_at t q m has place r e = record {
  there = ap (λ n. run_at n m.past.runs) (its_number m.past.runs place r has.in_order.numbered e) ∙ e;
  run = all_at (IsRun (contents_of t).desk.templates m) m.past.runs has.in_order.runs place r e;
  read = all_at (IsBoundRun t q (strategy_of m.made)) m.past.runs has.read place r e;
  sound = all_at IsSoundRun m.past.runs has.sound place r e;
  readable = all_at IsReadableRun m.past.runs has.readable.runs place r e;
}

abbrev list_row : List ℕ → ℕ → ℕ → List Recorded → TallyRow
list_row q number metric list = tally_row q number metric (counts_of list)

tally_at : (t : Tables) (q : List ℕ) (m : ModelService) → HasRows t q m → (r : Run) → StandsAt t q m r → (metric : ℕ)
    → filter (is_tally q r.number metric) t.tallies ≡ row_if (list_row q r.number metric) (slice_get r.lists metric)
tally_at t q m has r at metric = has.tallies r.number metric ∙ ap (tally_rows_of q r.number metric) at.there

as_mapped : {A B : Type 0} (f : A → B) (xs : List A) → length (map f xs) ≡ length xs
as_mapped f [] = refl
as_mapped f (x ∷ xs) = ap suc (as_mapped f xs)

pub so_many_tallies : (t : Tables) (q : List ℕ) (m : ModelService) → HasRows t q m → (r : Run) → StandsAt t q m r → length (filter (is_tally_of q r.number) t.tallies) ≡ length r.lists
so_many_tallies t q m has r at =
    just_numbers tally_metric (filter (is_tally_of q r.number) t.tallies) 0 (length r.lists)
    (λ k a b. (let h : HasPlace r.lists k = has_place r.lists k (omega arith) in ap length (tallies_numbered q r.number k t.tallies ∙ tally_at t q m has r at k ∙ ap (row_if (list_row q r.number k)) h.there)))
    (λ k out. (let above : length r.lists ≤ k = elim out as (λ x. length r.lists ≤ k) [ inl low ↦ omega arith | inr high ↦ omega arith ] in
    tallies_numbered q r.number k t.tallies ∙ tally_at t q m has r at k ∙ ap (row_if (list_row q r.number k)) (none_behind r.lists k above)))

-- Verdicts.

counted_lists : (lists : List (List Recorded)) → map counts (map (map measurement_of) lists) ≡ map counts_of lists
counted_lists [] = refl
counted_lists (list ∷ lists) = λ i. counts_of list ∷ counted_lists lists i

same_verdict : (r : Run) (outside : Bool) → verdict_on r outside ≡ verdict_of_counts outside (zip r.analysis.metrics (map counts_of r.lists))
same_verdict r outside = λ i. verdict_of_counts outside (zip r.analysis.metrics (counted_lists r.lists i))

verdict_by : (r : Run) (o : Option Closing) → HasVerdict r o → HasVerdictBy r.analysis.metrics (map counts_of r.lists) o
verdict_by r None h = sym (same_verdict r false) ∙ h
verdict_by r (Some x) h = (h.1 ∙ same_verdict r x.outside, h.2)

-- A run.

-- its analysis is bound by its rows of binding
its_analysis : (t : Tables) (q : List ℕ) (m : ModelService) (r : Run) → IsRun (contents_of t).desk.templates m r → IsBoundRun t q (strategy_of m.made) r → analysis_at (bound_of (known_in t q r.number) (strategy_of m.made)) r.step ≡ Some r.analysis
its_analysis t q m r run read =
    bound_there (analysis_at (bound_of (known_in t q r.number) (strategy_of m.made)) r.step) r.analysis read
    (analysis_has_some (known_by (contents_of t).desk.templates run.binding) m.service.strategy r.step r.analysis run.analysis)

revisions_at : (m : ModelService) (number : ℕ) (r : Run) → run_at number m.past.runs ≡ Some r → revisions_bound (Some m) number ≡ r.analysis.revisions
revisions_at m zero r e = absurd (cc)
revisions_at m (suc place) r e = ap revisions_of_run e

its_bindings : (t : Tables) (q : List ℕ) (m : ModelService) → HasRows t q m → (r : Run) → StandsAt t q m r → length (filter (is_binding_of q r.number) t.bindings) ≡ length (distinct r.analysis.revisions)
its_bindings t q m has r at =
    number_of_bindings t q r.number r.analysis.revisions (λ template. has.bindings r.number template ∙ ap (λ (rs : List Revision). row_if (binding_row q r.number) (find (is_of_template template) rs)) (revisions_at m r.number r at.there))

pub run_is_judged : (t : Tables) (q : List ℕ) (m : ModelService) → HasRows t q m → (r : Run) → StandsAt t q m r → IsRunJudged t (strategy_of m.made) q (record_of r)
run_is_judged t q m has r at = record {
  one = has.runs r.number ∙ ap (row_if (run_row q)) at.there;
  closed = at.readable;
  analysis = its_analysis t q m r at.run at.read;
  bindings = its_bindings t q m has r at;
  tallies = λ place c e.
      let h : ComesOf counts_of r.lists place c = comes_of counts_of r.lists place c e in
      tally_at t q m has r at place ∙ ap (row_if (list_row q r.number place)) h.there ∙ ap (λ x. tally_row q r.number place x ∷ []) h.is;
  no_more = so_many_tallies t q m has r at ∙ sym (as_mapped counts_of r.lists);
  verdict = verdict_by r r.closed at.sound.1;
}

pub runs_are_judged : (t : Tables) (q : List ℕ) (m : ModelService) → HasRows t q m → (place : ℕ) (r : RunRecord) → slice_get (map record_of m.past.runs) place ≡ Some r
    → (r.number ≡ suc place) × IsRunJudged t (strategy_of m.made) q r
runs_are_judged t q m has place r e =
    let h : ComesOf record_of m.past.runs place r = comes_of record_of m.past.runs place r e in
    subst (λ (x : RunRecord). (x.number ≡ suc place) × IsRunJudged t (strategy_of m.made) q x) h.is
    (its_number m.past.runs place h.value has.in_order.numbered h.there, run_is_judged t q m has h.value (stands_at t q m has place h.value h.there))

-- The open ones.

pub same_open : (runs : List Run) → open_runs_in (map record_of runs) ≡ map tallied (filter is_open runs)
same_open [] = refl
same_open (r ∷ runs) =
    let rest : open_runs_in (map record_of runs) ≡ map tallied (filter is_open runs) = same_open runs in
    elim (is_none r.closed)
    as (λ b. map open_of_record (cond b (record_of r ∷ filter is_open_record (map record_of runs)) (filter is_open_record (map record_of runs))) ≡ map tallied (cond b (r ∷ filter is_open runs) (filter is_open runs))) [
      | true ↦ λ i. tallied r ∷ rest i
      | false ↦ rest
    ]

pub as_many_records : (runs : List Run) → length (map record_of runs) ≡ length runs
as_many_records runs = as_mapped record_of runs
