-- What the first schema has of the rows of contents migrates to the rows of these contents.
use Rattle.std.proofs.Common.{◌≡◌, ◌≤◌, ℕ, zero, suc, ◌+◌, length, List, [], ◌∷◌, ◌++◌, Bool, true, IsTrue, Some, None, refl, sym, ap, ◌∙◌, subst, append-nil, arith}
use Rattle.std.specs.Prelude.{Option, ◌&&◌, ◌==◌, map, filter, find, slice_get, unwrap_or, option_map}
use Rattle.std.specs.List.{AllByRecursion, suffix_len}
use Rattle.std.specs.FinMap.{get}
use Rattle.std.specs.Cmp.Lexicographic.{pointwise}
use Rattle.std.proofs.lemmas.List.Elements.{filter-append}
use Rattle.canary_condition.specs.declared.outcome.Phase.{Phase}
use Rattle.canary_condition.specs.declared.outcome.Phase.TheVariants as phase
use Rattle.canary_metric.specs.declared.measurement.Measurement.{Measurement}
use Rattle.canary_metric.specs.Counts.{is_successful}
use Rattle.canary_plan.specs.declared.bound.BoundParts.{BoundParts}
use Rattle.canary_plan.specs.declared.strategy.CheckedStrategy.{CheckedStrategy}
use Rattle.canary_plan.specs.declared.template.Template.{Template}
use Rattle.canary_plan.specs.Commands.{all_names}
use Rattle.canary_plan.specs.PlanRefusals.{analyses}
use Rattle.canary_plan.specs.Plans.{Templates, bound_of, strategy_of, analysis_at, all_revisions}
use Rattle.canary_release.specs.declared.effect.Recorded.{Recorded}
use Rattle.canary_release.specs.Desks.{ModelService, revisions_of}
use Rattle.canary_release.specs.Order.{AreNumbered, AreLists, IsRun, IsInOrder, IsInRevisions, is_of, at_revision, known_by}
use Rattle.canary_release.specs.Parts.{is_step_bound, is_background_bound, is_bound}
use Rattle.canary_release.specs.Pasts.{Run, counts_of, measurement_of}
use Rattle.canary_once.specs.Contents.{Contents}
use Rattle.canary_once.specs.Records.{past_in, past_of}
use Rattle.canary_once.specs.Sound.{AreContents}
use Rattle.canary_tables_rows.specs.declared.rows.MeasurementRow.{MeasurementRow}
use Rattle.canary_tables_rows.specs.declared.rows.RevisionRow.{RevisionRow}
use Rattle.canary_tables_rows.specs.declared.rows.RunRow.{RunRow}
use Rattle.canary_tables_rows.specs.declared.rows.TallyRow.{TallyRow}
use Rattle.canary_tables_rows.specs.Tables.{Tables, is_revision, is_binding, is_run, is_tally, is_measurement_of}
use Rattle.canary_tables_contents.specs.Numbers.{phase_column}
use Rattle.canary_tables_contents.specs.Tables.{AreRows, IsReadable, row_if, revision_rows, run_at, tally_rows_of, is_of_template, revisions_of_run, binding_rows}
use Rattle.canary_tables_contents.specs.Values.{revision_row, service_row, binding_row, run_row, tally_row, measurement_row, made_from}
use Rattle.canary_tables_contents.specs.Reading.{contents_of}
use Rattle.canary_tables_contents.specs.Soundness.{ExactlyThose}
use Rattle.canary_tables_read.specs.Finds.{first}
use Rattle.canary_tables_read.specs.Metrics.{is_measurement_in}
use Rattle.canary_migrate.specs.Migrated.{first_revision, first_of, bindings_to, names_at, run_bindings, bindings_of_runs, all_bindings, is_passed, passes_of, tally_of, migrated}
use Rattle.canary_migrate.specs.FirstContents.{AreFirstContents, template_row, first_tally, first_rows, FirstRowsMigrate, SoundRowsMigrate}
use Rattle.canary_migrate.proofs.Filters.{own_name, own_number, turned, all_weaker, by_tests, filter_twice, filter_mapped, map_back, suffix_mapped}
use Rattle.canary_migrate.proofs.FirstBound.{AreFirstKnown, all_first, run_first}
use Rattle.canary_migrate.proofs.FirstBindings.{own_rows, attempt_alone, of_number, none_there, bound_of_service, run_alone}

-- Templates of one revision.

-- no revision is there but the first
abbrev pub IsFirstAlone : List Template → Type 0
IsFirstAlone ts = (place : ℕ) (t : Template) → slice_get ts place ≡ Some t → (place ≡ 0) × (t.revision ≡ 1)

pub one_alone : (t : Template) → t.revision ≡ 1 → IsFirstAlone (t ∷ [])
one_alone t e zero x is = let same : t ≡ x = cc is in (refl, sym (ap (λ (y : Template). y.revision) same) ∙ e)
one_alone t e (suc place) x is = cc is

none_alone : IsFirstAlone []
none_alone place t is = cc is

-- `is_bound`, of the parts of a stand
abbrev is_bound_by : CheckedStrategy → BoundParts → Bool
is_bound_by st b = pointwise is_step_bound st.steps b.steps && is_background_bound st.background b.background

module _ (c : Contents) (lawful : AreContents c) where
  pub numbered_one : (name : List ℕ) (t : Template) → get c.desk.templates name ≡ Some (t ∷ []) → t.revision ≡ 1
  numbered_one name t e = let is : IsInRevisions name (t ∷ []) = lawful.desk.templates name (t ∷ []) e in ap (λ (x : Template). x.revision) is.each.0.bound

  module _ (templates : (name : List ℕ) (ts : List Template) → get c.desk.templates name ≡ Some ts → (t : Template) × (ts ≡ t ∷ [])) where
    pub first_alone : (name : List ℕ) → IsFirstAlone (revisions_of c.desk.templates name)
    first_alone name = by_option (get c.desk.templates name) refl
      where
        by_list : (ts : List Template) → get c.desk.templates name ≡ Some ts → (t : Template) × (ts ≡ t ∷ []) → IsFirstAlone ts
        by_list ts e is = subst IsFirstAlone (sym is.1) (one_alone is.0 (numbered_one name is.0 (e ∙ ap Some is.1)))

        by_option : (o : Option (List Template)) → get c.desk.templates name ≡ o → IsFirstAlone (unwrap_or o [])
        by_option None e = none_alone
        by_option (Some ts) e = by_list ts e (templates name ts e)

    pub known_first : (binding : List ℕ → Option ℕ) → AreFirstKnown (known_by c.desk.templates binding)
    known_first binding name t = by_number (binding name)
      where
        by_number : (o : Option ℕ) → at_revision (revisions_of c.desk.templates name) o ≡ Some t → t.revision ≡ 1
        by_number None e = cc e
        by_number (Some zero) e = cc e
        by_number (Some (suc place)) e = (first_alone name place t e).1

    pub attempt_first : (name : List ℕ) (s : ModelService) → get c.desk.services name ≡ Some s → IsTrue (is_bound s.service) → all_revisions s.service.bound ≡ map first_of (all_names (analyses s.made))
    attempt_first name s e bound =
        let ord : IsInOrder c.desk.templates name s = lawful.desk.services name s e in
        let known : Templates = known_by c.desk.templates ord.bound.binding in
        let to : s.service.bound ≡ bound_of known (strategy_of s.made) = ord.bound.bound ∙ ap (bound_of known) ord.strategy in
        let here : is_bound_by (strategy_of s.made) (bound_of known (strategy_of s.made)) ≡ true = sym (λ i. is_bound_by (ord.strategy i) (to i)) ∙ bound in
        ap all_revisions to ∙ all_first known (known_first ord.bound.binding) s.made here

    pub analysis_first : (s : ModelService) → s.service.strategy ≡ strategy_of s.made → (r : Run) → IsRun c.desk.templates s r → r.analysis.revisions ≡ map first_of (names_at s.made r.step)
    analysis_first s strategy r is =
        let known : Templates = known_by c.desk.templates is.binding in
        run_first known (known_first is.binding) s.made r.step r.analysis (ap (λ st. analysis_at (bound_of known st) r.step) (sym strategy) ∙ is.analysis)

-- The rows.

module _ (t : Tables) (c : Contents) (rows : AreRows t c) (readable : IsReadable c) (lawful : AreContents c) (firsts : AreFirstContents c) where
  alone : (name : List ℕ) (ts : List Template) → get c.desk.templates name ≡ Some ts → (x : Template) × (ts ≡ x ∷ [])
  alone name ts e = let is = firsts.templates name ts e in (is.0, is.1)

  -- Revisions.

  abbrev IsOne : RevisionRow → Type 0
  IsOne row = row.revision ≡ 1

  one_under : (name : List ℕ) (number : ℕ) → AllByRecursion IsOne (revision_rows name number (revisions_of c.desk.templates name))
  one_under name zero = tt
  one_under name (suc place) = by_place (slice_get (revisions_of c.desk.templates name) place) refl
    where
      by_place : (o : Option Template) → slice_get (revisions_of c.desk.templates name) place ≡ o → AllByRecursion IsOne (row_if (revision_row name) o)
      by_place None e = tt
      by_place (Some x) e = ((first_alone c lawful alone name place x e).1, tt)

  all_one : AllByRecursion IsOne t.revisions
  all_one =
      by_tests (λ (x : RevisionRow). is_revision x.name x.revision) IsOne (λ x i. own_name x.name i && own_number x.revision i) t.revisions
      (λ x. subst (AllByRecursion IsOne) (sym (rows.revisions x.name x.revision)) (one_under x.name x.revision))

  pub revisions_back : map first_revision (map template_row t.revisions) ≡ t.revisions
  revisions_back = map_back template_row first_revision t.revisions (all_weaker IsOne (λ row. first_revision (template_row row) ≡ row) (λ row e i. record row { revision = sym e i }) t.revisions all_one)

  -- Tallies.

  passed : (p : Phase) → (phase_column p == 1) ≡ is_successful p
  passed phase.Pending = refl
  passed phase.Running = refl
  passed phase.Successful = refl
  passed phase.Inconclusive = refl
  passed phase.Error = refl
  passed phase.Failed = refl

  list_at : (all : List Recorded) (run m : ℕ) (lists : List (List Recorded)) → AreLists all run m lists → (i k : ℕ) → k ≡ i + m → (list : List Recorded) → slice_get lists i ≡ Some list → list ≡ filter (is_of run k) all
  list_at all run m [] are i k e list at = cc at
  list_at all run m (x ∷ lists) are zero k e list at =
      let same : x ≡ list = cc at in
      let here : m ≡ k = omega (arith, e) in
      sym same ∙ are.2 ∙ ap (λ n. filter (is_of run n) all) here
  list_at all run m (x ∷ lists) are (suc i) k e list at = list_at all run (suc m) lists are.3 i k (omega (arith, e)) list at

  of_metric : (name : List ℕ) (number metric : ℕ) (list : List Recorded) → list ≡ filter (is_of number metric) (past_of c name).measurements
      → filter (is_measurement_in name number metric) t.measurements ≡ map (measurement_row name) list
  of_metric name number metric list is =
      let here : MeasurementRow → Bool = λ row. number == row.run && metric == row.metric in
      sym (filter_twice here (is_measurement_of name) t.measurements)
      ∙ ap (filter here) (rows.measurements name)
      ∙ filter_mapped here (measurement_row name) (past_of c name).measurements
      ∙ ap (λ (p : Recorded → Bool). map (measurement_row name) (filter p (past_of c name).measurements)) (λ i x. turned number x.run i && turned metric x.metric i)
      ∙ ap (map (measurement_row name)) (sym is)

  abbrev IsCounted : TallyRow → Type 0
  IsCounted row = passes_of t.measurements (first_tally row) ≡ row.counts.passes

  counted : (name : List ℕ) (number metric : ℕ) (list : List Recorded) → list ≡ filter (is_of number metric) (past_of c name).measurements → IsCounted (tally_row name number metric (counts_of list))
  counted name number metric list is =
      ap (suffix_len is_passed) (of_metric name number metric list is)
      ∙ suffix_mapped is_passed (measurement_row name) list
      ∙ ap (λ (p : Recorded → Bool). suffix_len p list) (λ i x. passed x.phase i)
      ∙ sym (suffix_mapped (λ (m : Measurement). is_successful m.phase) measurement_of list)

  -- the runs of a service, each with its number
  run_is : (n : ℕ) (runs : List Run) (place : ℕ) (r : Run) → AreNumbered n runs → slice_get runs place ≡ Some r → r.number ≡ place + n
  run_is n [] place r h at = cc at
  run_is n (q ∷ runs) zero r h at = let same : q ≡ r = cc at in let is : q.number ≡ n = h.0 in sym (ap (λ (x : Run). x.number) same) ∙ is ∙ (let e : n ≡ zero + n = omega arith in e)
  run_is n (q ∷ runs) (suc place) r h at = let is : r.number ≡ place + suc n = run_is (suc n) runs place r h.1 at in omega (arith, is)

  all_at : {A : Type 0} (P : A → Type 0) (xs : List A) → AllByRecursion P xs → (i : ℕ) (x : A) → slice_get xs i ≡ Some x → P x
  all_at P [] all i x e = cc e
  all_at P (y ∷ xs) all zero x e = let same : y ≡ x = cc e in subst P same all.0
  all_at P (y ∷ xs) all (suc i) x e = all_at P xs all.1 i x e

  counted_under : (name : List ℕ) (number metric : ℕ) (past : Option ModelService) → get c.desk.services name ≡ past → AllByRecursion IsCounted (tally_rows_of name number metric (run_at number (past_in past).runs))
  counted_under name zero metric past e = tt
  counted_under name (suc place) metric None e = tt
  counted_under name (suc place) metric (Some s) e = by_run (slice_get s.past.runs place) refl
    where
      measured : past_in (get c.desk.services name) ≡ s.past
      measured = ap past_in e

      by_list : (r : Run) → IsRun c.desk.templates s r → r.number ≡ suc place → (o : Option (List Recorded)) → slice_get r.lists metric ≡ o → AllByRecursion IsCounted (row_if (λ list. tally_row name (suc place) metric (counts_of list)) o)
      by_list r is number None at = tt
      by_list r is number (Some list) at =
          let listed : list ≡ filter (is_of r.number metric) s.past.measurements = list_at s.past.measurements r.number 0 r.lists is.lists metric metric (omega arith) list at in
          (counted name (suc place) metric list (listed ∙ (λ i. filter (is_of (number i) metric) (sym measured i).measurements)), tt)

      by_run : (o : Option Run) → slice_get s.past.runs place ≡ o → AllByRecursion IsCounted (tally_rows_of name (suc place) metric o)
      by_run None at = tt
      by_run (Some r) at =
          let ord : IsInOrder c.desk.templates name s = lawful.desk.services name s e in
          let number : r.number ≡ place + 1 = run_is 1 s.past.runs place r ord.numbered at in
          by_list r (all_at (IsRun c.desk.templates s) s.past.runs ord.runs place r at) (omega (arith, number)) (slice_get r.lists metric) refl

  all_counted : AllByRecursion IsCounted t.tallies
  all_counted =
      by_tests (λ (x : TallyRow). is_tally x.service x.run x.metric) IsCounted (λ x i. own_name x.service i && (own_number x.run i && own_number x.metric i)) t.tallies
      (λ x. subst (AllByRecursion IsCounted) (sym (rows.tallies x.service x.run x.metric)) (counted_under x.service x.run x.metric (get c.desk.services x.service) refl))

  pub tallies_back : map (tally_of t.measurements) (map first_tally t.tallies) ≡ t.tallies
  tallies_back = map_back first_tally (tally_of t.measurements) t.tallies (all_weaker IsCounted (λ row. tally_of t.measurements (first_tally row) ≡ row) (λ row e i. record row { counts = record row.counts { passes = e i } }) t.tallies all_counted)

  -- Bindings.

  under_run : (name : List ℕ) (place : ℕ) (template : List ℕ) (s : ModelService) → get c.desk.services name ≡ Some s → (o : Option Run) → slice_get s.past.runs place ≡ o
      → filter (is_binding name (suc place) template) (run_bindings s.made (option_map (run_row name) o)) ≡ row_if (binding_row name (suc place)) (find (is_of_template template) (revisions_of_run o))
  under_run name place template s e None at = refl
  under_run name place template s e (Some r) at =
      let ord : IsInOrder c.desk.templates name s = lawful.desk.services name s e in
      let placed : r.number ≡ place + 1 = run_is 1 s.past.runs place r ord.numbered at in
      let number : r.number ≡ suc place = omega (arith, placed) in
      let to : r.analysis.revisions ≡ map first_of (names_at s.made r.step) = analysis_first c lawful alone s ord.strategy r (all_at (IsRun c.desk.templates s) s.past.runs ord.runs place r at) in
      ap (λ n. filter (is_binding name (suc place) template) (bindings_to name n (names_at s.made r.step))) number
      ∙ own_rows name (suc place) template (map first_of (names_at s.made r.step))
      ∙ ap (λ rs. row_if (binding_row name (suc place)) (find (is_of_template template) rs)) (sym to)

  first_if : {A R : Type 0} (row : A → R) (o : Option A) → first (row_if row o) ≡ option_map row o
  first_if row None = refl
  first_if row (Some x) = refl

  past_end : {A : Type 0} (xs : List A) (i : ℕ) → length xs ≤ i → slice_get xs i ≡ None
  past_end [] i over = refl
  past_end (x ∷ xs) zero over = absurd (omega (arith, over))
  past_end (x ∷ xs) (suc i) over = past_end xs i (omega (arith, over))

  of_one : (name : List ℕ) (number : ℕ) (template : List ℕ) (s : ModelService) → get c.desk.services name ≡ Some s
      → filter (is_binding name number template) (bindings_to name 0 (all_names (analyses s.made))) ++ filter (is_binding name number template) (bindings_of_runs t.runs name s.made (length s.past.runs))
      ≡ binding_rows name number template (Some s)
  of_one name zero template s e =
      (λ i. own_rows name 0 template (map first_of (all_names (analyses s.made))) i ++ attempt_alone t.runs name s.made (length s.past.runs) template i)
      ∙ append-nil (row_if (binding_row name 0) (find (is_of_template template) (map first_of (all_names (analyses s.made)))))
      ∙ ap (λ rs. row_if (binding_row name 0) (find (is_of_template template) rs)) (sym (attempt_first c lawful alone name s e (firsts.services name s e)))
  of_one name (suc place) template s e =
      let stands : first (filter (is_run name (suc place)) t.runs) ≡ option_map (run_row name) (slice_get s.past.runs place) =
      ap (first {A = RunRow}) (rows.runs name (suc place) ∙ ap (λ (o : Option ModelService). row_if (run_row name) (slice_get (past_in o).runs place)) e) ∙ first_if (run_row name) (slice_get s.past.runs place) in
      (λ i. run_alone name place template (all_names (analyses s.made)) i ++ of_number t.runs name s.made place (length s.past.runs) template (λ over. stands ∙ ap (option_map (run_row name)) (past_end s.past.runs place over)) i)
      ∙ ap (λ (o : Option RunRow). filter (is_binding name (suc place) template) (run_bindings s.made o)) stands
      ∙ under_run name place template s e (slice_get s.past.runs place) refl

  pub bindings_are : (name : List ℕ) (number : ℕ) (template : List ℕ) → filter (is_binding name number template) (all_bindings t.services t.runs) ≡ binding_rows name number template (get c.desk.services name)
  bindings_are name number template = by_service (get c.desk.services name) refl
    where
      by_service : (o : Option ModelService) → get c.desk.services name ≡ o → filter (is_binding name number template) (all_bindings t.services t.runs) ≡ binding_rows name number template o
      by_service None e = none_there t.services t.runs name number template t.services (rows.services name ∙ ap (row_if (service_row name)) e) ∙ none_bound number
        where
          none_bound : (n : ℕ) → [] ≡ binding_rows name n template None
          none_bound zero = refl
          none_bound (suc n) = refl
      by_service (Some s) e =
          bound_of_service t.services t.runs name number template (service_row name s) s.made (rows.services name ∙ ap (row_if (service_row name)) e) (ap made_from (readable.made name s e))
          ∙ filter-append (is_binding name number template) (bindings_to name 0 (all_names (analyses s.made))) (bindings_of_runs t.runs name s.made (length s.past.runs))
          ∙ of_one name number template s e

  pub rows_migrate : AreRows (migrated (first_rows t)) c
  rows_migrate = record {
    callers = rows.callers;
    kept = rows.kept;
    revisions = λ name number. ap (filter (is_revision name number)) revisions_back ∙ rows.revisions name number;
    services = rows.services;
    bindings = bindings_are;
    runs = rows.runs;
    tallies = λ name number metric. ap (filter (is_tally name number metric)) tallies_back ∙ rows.tallies name number metric;
    measurements = rows.measurements;
    history = rows.history;
  }

pub first_rows_migrate : FirstRowsMigrate
first_rows_migrate t c rows readable lawful firsts = rows_migrate t c rows readable lawful firsts

pub sound_rows_migrate : ExactlyThose → SoundRowsMigrate
sound_rows_migrate those t sound firsts =
    let h = sound.0 in
    (those (migrated (first_rows t))).0 (contents_of t, first_rows_migrate t (contents_of t) h.rows h.readable h.lawful firsts, h.readable, h.lawful, sound.1)
