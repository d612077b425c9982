-- A measurement is recorded: what this makes of the rows of a past.
use Rattle.std.proofs.Common.{◌≡◌, ℕ, arith, zero, suc, ◌+◌, ◌≤◌, List, [], ◌∷◌, ◌++◌, Bool, true, false, refl, ap, sym, ◌∙◌, subst, eqb-true, eq-eqb, true≢false}
use Rattle.std.specs.Prelude.{◌==◌, ◌&&◌, if◌then◌else◌, cond, map, Option, Some, None, option_map, slice_get}
use Rattle.std.specs.Str.{bytes_eq}
use Rattle.std.proofs.lemmas.Option.{slice_get-map}
use Rattle.canary_metric.specs.Counts.{Counts, counts, size, with_one_more, CountsOneMore}
use Rattle.canary_release.specs.declared.effect.Recorded.{Recorded}
use Rattle.canary_release.specs.declared.effect.Effect.TheVariants.{MeasurementRecorded}
use Rattle.canary_release.specs.declared.runs.OpenRun.{OpenRun}
use Rattle.canary_release.specs.Effects.{Measures}
use Rattle.canary_release.specs.Order.{AreNumbered}
use Rattle.canary_release.specs.Pasts.{Run, Past, change_at, with_recorded, measured_in, measurement_of, counts_of, tracked}
use Rattle.canary_tables_rows.specs.declared.rows.RunRow.{RunRow}
use Rattle.canary_tables_rows.specs.declared.rows.TallyRow.{TallyRow}
use Rattle.canary_tables_rows.specs.Tables.{Tables, is_tally, is_measurement_of}
use Rattle.canary_tables_rows.specs.Changes.{change_where, HasTally}
use Rattle.canary_tables_contents.specs.Values.{run_row, tally_row, measurement_row}
use Rattle.canary_tables_contents.specs.Tables.{row_if, run_at, run_rows, tally_rows, tally_rows_of}
use Rattle.canary_tables_contents.proofs.PastRows.{ArePastRows}
use Rattle.canary_tables_contents.proofs.Filters.{own_name, turned, passes_more, fails_more, changed_under, left_alone, first_holds, apart_by_name}
use Rattle.canary_tables_contents.proofs.RunsAt.{same_numbers, same_bound, has_its_number, run_in_map, StandsThere, found_stands}
use Rattle.canary_tables_contents.proofs.OneHappens.{OneHappens, map_more}
use Rattle.canary_tables_contents.proofs.Few.{counts_few}

abbrev counts_more : Recorded → TallyRow → TallyRow
counts_more x row = record row { counts = with_one_more row.counts x.phase x.taken }

-- runs stand as they did

run_if_measured : (name : List ℕ) (x : Recorded) (r : Run) (t : Bool) → (r.number == x.run) ≡ t → run_row name r ≡ run_row name (measured_in x r)
run_if_measured name x r true t = rw t refl
run_if_measured name x r false t = rw t refl

rows_if_measured : (name : List ℕ) (x : Recorded) (o : Option Run) → row_if (run_row name) o ≡ row_if (run_row name) (option_map (measured_in x) o)
rows_if_measured name x None = refl
rows_if_measured name x (Some r) = ap (λ (row : RunRow). row ∷ []) (run_if_measured name x r (r.number == x.run) refl)

run_rows_measured : (name : List ℕ) (x : Recorded) (number : ℕ) (runs : List Run) → run_rows name number runs ≡ run_rows name number (map (measured_in x) runs)
run_rows_measured name x number runs = rows_if_measured name x (run_at number runs) ∙ ap (row_if (run_row name)) (sym (run_in_map (measured_in x) number runs))

same_number : (x : Recorded) (r : Run) (t : Bool) → (r.number == x.run) ≡ t → (measured_in x r).number ≡ r.number
same_number x r true t = rw t refl
same_number x r false t = rw t refl

same_analysis : (x : Recorded) (r : Run) (t : Bool) → (r.number == x.run) ≡ t → (measured_in x r).analysis ≡ r.analysis
same_analysis x r true t = rw t refl
same_analysis x r false t = rw t refl

-- the list at a place, of lists of which one is changed

changed_here : {A : Type 0} (k : ℕ) (f : A → A) (xs : List A) → slice_get (change_at k f xs) k ≡ option_map f (slice_get xs k)
changed_here k f [] = refl
changed_here zero f (x ∷ xs) = refl
changed_here (suc k) f (x ∷ xs) = changed_here k f xs

changed_elsewhere : {A : Type 0} (k i : ℕ) (f : A → A) (xs : List A) → (k ≡ i → ⊥) → slice_get (change_at k f xs) i ≡ slice_get xs i
changed_elsewhere k i f [] apart = refl
changed_elsewhere zero zero f (x ∷ xs) apart = absurd (apart refl)
changed_elsewhere zero (suc i) f (x ∷ xs) apart = refl
changed_elsewhere (suc k) zero f (x ∷ xs) apart = refl
changed_elsewhere (suc k) (suc i) f (x ∷ xs) apart = changed_elsewhere k i f xs (λ e. apart (ap suc e))

-- the tally of a metric

abbrev tally_of : List ℕ → ℕ → ℕ → List Recorded → TallyRow
tally_of name number metric list = tally_row name number metric (counts_of list)

counts_of_more : CountsOneMore → (x : Recorded) (list : List Recorded) → counts_of (with_recorded x list) ≡ with_one_more (counts_of list) x.phase x.taken
counts_of_more one x list = ap counts (map_more measurement_of list x) ∙ one (map measurement_of list) (measurement_of x)

tally_counted : CountsOneMore → (name : List ℕ) (x : Recorded) (o : Option (List Recorded))
    → change_where (is_tally name x.run x.metric) (counts_more x) (row_if (tally_of name x.run x.metric) o) ≡ row_if (tally_of name x.run x.metric) (option_map (with_recorded x) o)
tally_counted one name x None = refl
tally_counted one name x (Some list) =
    let counted : TallyRow = counts_more x (tally_of name x.run x.metric list) in
    let plain : TallyRow = tally_of name x.run x.metric list in
    ap (λ b. (if b && ((x.run == x.run) && (x.metric == x.metric)) then counted else plain) ∷ []) (own_name name)
    ∙ ap (λ b. (if b && (x.metric == x.metric) then counted else plain) ∷ []) (eq-eqb x.run x.run refl)
    ∙ ap (λ b. (if b then counted else plain) ∷ []) (eq-eqb x.metric x.metric refl)
    ∙ ap (λ (c : Counts). tally_row name x.run x.metric c ∷ []) (sym (counts_of_more one x list))

tally_left : (name : List ℕ) (x : Recorded) (number metric : ℕ) (o : Option (List Recorded)) → ((x.run == number) && (x.metric == metric)) ≡ false
    → change_where (is_tally name x.run x.metric) (counts_more x) (row_if (tally_of name number metric) o) ≡ row_if (tally_of name number metric) o
tally_left name x number metric None e = refl
tally_left name x number metric (Some list) e =
    let counted : TallyRow = counts_more x (tally_of name number metric list) in
    let plain : TallyRow = tally_of name number metric list in
    ap (λ b. (if b && ((x.run == number) && (x.metric == metric)) then counted else plain) ∷ []) (own_name name)
    ∙ ap (λ b. (if b then counted else plain) ∷ []) e

-- the tallies of a run

abbrev lists_after : Recorded → Bool → Run → List (List Recorded)
lists_after x b r = cond b (change_at x.metric (with_recorded x) r.lists) r.lists

lists_measured : (x : Recorded) (r : Run) (t : Bool) → (r.number == x.run) ≡ t → (measured_in x r).lists ≡ lists_after x t r
lists_measured x r true t = rw t refl
lists_measured x r false t = rw t refl

and_false : (b : Bool) → (b && false) ≡ false
and_false true = refl
and_false false = refl

own_tally : CountsOneMore → (name : List ℕ) (x : Recorded) (metric : ℕ) (lists : List (List Recorded)) (m : Bool) → (x.metric == metric) ≡ m
    → change_where (is_tally name x.run x.metric) (counts_more x) (row_if (tally_of name x.run metric) (slice_get lists metric)) ≡ row_if (tally_of name x.run metric) (slice_get (change_at x.metric (with_recorded x) lists) metric)
own_tally one name x metric lists true e =
    let same : x.metric ≡ metric = eqb-true x.metric metric e in
    subst (λ m. change_where (is_tally name x.run x.metric) (counts_more x) (row_if (tally_of name x.run m) (slice_get lists m)) ≡ row_if (tally_of name x.run m) (slice_get (change_at x.metric (with_recorded x) lists) m)) same
    (tally_counted one name x (slice_get lists x.metric) ∙ ap (row_if (tally_of name x.run x.metric)) (sym (changed_here x.metric (with_recorded x) lists)))
own_tally one name x metric lists false e =
    tally_left name x x.run metric (slice_get lists metric) (ap (λ b. (x.run == x.run) && b) e ∙ and_false (x.run == x.run))
    ∙ ap (row_if (tally_of name x.run metric)) (sym (changed_elsewhere x.metric metric (with_recorded x) lists (λ same. true≢false (sym (eq-eqb x.metric metric same) ∙ e))))

run_tally : CountsOneMore → (name : List ℕ) (x : Recorded) (number metric : ℕ) (r : Run) (t : Bool) → (r.number == x.run) ≡ t → r.number ≡ number
    → change_where (is_tally name x.run x.metric) (counts_more x) (tally_rows_of name number metric (Some r)) ≡ row_if (tally_of name number metric) (slice_get (lists_after x t r) metric)
run_tally one name x number metric r true t is =
    let same : x.run ≡ number = sym (eqb-true r.number x.run t) ∙ is in
    subst (λ n. change_where (is_tally name x.run x.metric) (counts_more x) (tally_rows_of name n metric (Some r)) ≡ row_if (tally_of name n metric) (slice_get (change_at x.metric (with_recorded x) r.lists) metric)) same
    (own_tally one name x metric r.lists (x.metric == metric) refl)
run_tally one name x number metric r false t is =
    tally_left name x number metric (slice_get r.lists metric) (ap (λ b. b && (x.metric == metric)) (ap (λ n. x.run == n) (sym is) ∙ turned r.number x.run false t))

tallies_of_measured : CountsOneMore → (name : List ℕ) (x : Recorded) (number metric : ℕ) (o : Option Run) → ((r : Run) → o ≡ Some r → r.number ≡ number)
    → change_where (is_tally name x.run x.metric) (counts_more x) (tally_rows_of name number metric o) ≡ tally_rows_of name number metric (option_map (measured_in x) o)
tallies_of_measured one name x number metric None is = refl
tallies_of_measured one name x number metric (Some r) is =
    run_tally one name x number metric r (r.number == x.run) refl (is r refl)
    ∙ ap (λ (lists : List (List Recorded)). row_if (tally_of name number metric) (slice_get lists metric)) (sym (lists_measured x r (r.number == x.run) refl))

tally_rows_measured : CountsOneMore → (name : List ℕ) (x : Recorded) (number metric : ℕ) (runs : List Run) → AreNumbered 1 runs
    → change_where (is_tally name x.run x.metric) (counts_more x) (tally_rows name number metric runs) ≡ tally_rows name number metric (map (measured_in x) runs)
tally_rows_measured one name x number metric runs numbered =
    tallies_of_measured one name x number metric (run_at number runs) (λ r at. has_its_number runs number r numbered at)
    ∙ ap (tally_rows_of name number metric) (sym (run_in_map (measured_in x) number runs))

-- the tally is there, of some measurements, with room

record HasList (lists : List (List Recorded)) (metric : ℕ) (tally : Counts) : Type 0 where
  list : List Recorded
  there : slice_get lists metric ≡ Some list
  counted : counts_of list ≡ tally

list_of_tally : (o : Option (List Recorded)) (lists : List (List Recorded)) (metric : ℕ) (tally : Counts) → slice_get lists metric ≡ o → option_map counts_of o ≡ Some tally → HasList lists metric tally
list_of_tally None lists metric tally there e = cc e
list_of_tally (Some list) lists metric tally there e = record { list = list; there = there; counted = cc e }

has_list : (r : Run) (q : OpenRun) (metric : ℕ) (tally : Counts) → map counts_of r.lists ≡ q.tallies → slice_get q.tallies metric ≡ Some tally → HasList r.lists metric tally
has_list r q metric tally alike is =
    list_of_tally (slice_get r.lists metric) r.lists metric tally refl (sym (slice_get-map counts_of r.lists metric) ∙ ap (λ (cs : List Counts). slice_get cs metric) alike ∙ is)

tally_stands : CountsOneMore → (name : List ℕ) (number metric : ℕ) (t : Tables) (p : Past) (r : Run) (tally : Counts) → ArePastRows t name p → run_at number p.runs ≡ Some r → HasList r.lists metric tally → size tally + 1 ≤ 1000000
    → HasTally name number metric t
tally_stands one name number metric t p r tally are there has room = record {
  row = tally_of name number metric has.list;
  one =
      are.tallies number metric
      ∙ ap (tally_rows_of name number metric) there
      ∙ ap (row_if (tally_of name number metric)) has.there;
  few = counts_few one (map measurement_of has.list) (subst (λ (c : Counts). size c ≤ 1000000) (sym has.counted) (omega (arith, room)));
  room = subst (λ (c : Counts). size c + 1 ≤ 1000000) (sym has.counted) room;
}

measured_asks : CountsOneMore → (name : List ℕ) (x : Recorded) (t : Tables) (p : Past) → ArePastRows t name p → AreNumbered 1 p.runs → Measures (tracked p) x → HasTally name x.run x.metric t
measured_asks one name x t p are numbered measures =
    let stands : StandsThere p.runs x.run measures.run = found_stands p.runs x.run measures.run numbered measures.found in
    let has : HasList stands.run.lists x.metric measures.tally = has_list stands.run measures.run x.metric measures.tally (ap (λ (r : OpenRun). r.tallies) stands.alike) measures.is_tally in
    tally_stands one name x.run x.metric t p stands.run measures.tally are stands.there has measures.room

pub measured_happens : CountsOneMore → (name : List ℕ) (x : Recorded) (t : Tables) (p : Past)
    → ArePastRows t name p → AreNumbered 1 p.runs → Measures (tracked p) x → OneHappens name (MeasurementRecorded x) t p
measured_happens one name x t p are numbered measures = record {
  rows = record {
    runs = λ number. are.runs number ∙ run_rows_measured name x number p.runs;
    bindings = λ place template. are.bindings place template ∙ same_bound name (suc place) template (measured_in x) (λ r. same_analysis x r (r.number == x.run) refl) p.runs;
    tallies = λ number metric.
        changed_under (is_tally name number metric) (is_tally name x.run x.metric) (counts_more x) (λ row. refl) t.tallies
        ∙ ap (change_where (is_tally name x.run x.metric) (counts_more x)) (are.tallies number metric)
        ∙ tally_rows_measured one name x number metric p.runs numbered;
    measurements =
        passes_more (is_measurement_of name) t.measurements (measurement_row name x) (own_name name)
        ∙ ap (λ rows. rows ++ measurement_row name x ∷ []) are.measurements
        ∙ sym (map_more (measurement_row name) p.measurements x);
    history = are.history;
  };
  asks = measured_asks one name x t p are numbered measures;
  others = λ q differ. record {
    runs = λ number. refl;
    bindings = λ place template. refl;
    tallies = λ number metric.
        left_alone (is_tally q number metric) (is_tally name x.run x.metric) (counts_more x) (λ row. refl)
        (λ row e. ap (λ b. b && ((x.run == row.run) && (x.metric == row.metric))) (apart_by_name q name row.service differ (first_holds (bytes_eq q row.service) ((number == row.run) && (metric == row.metric)) e))) t.tallies;
    measurements = fails_more (is_measurement_of q) t.measurements (measurement_row name x) differ;
    history = refl;
  };
  rest = record { callers = refl; kept = refl; revisions = refl; services = refl; attempts = λ q template. refl };
  numbered = same_numbers (measured_in x) (λ r. same_number x r (r.number == x.run) refl) 1 p.runs numbered;
}
