-- A service's row of contents passes each test.
use Rattle.std.proofs.Common.{◌≡◌, ℕ, List, [], ◌∷◌, length, Bool, true, false, Some, refl, sym, ap, ◌∙◌, subst}
use Rattle.std.specs.Prelude.{Option, filter, map}
use Rattle.std.specs.List.{AllByRecursion}
use Rattle.std.specs.FinMap.{get}
use Rattle.canary_plan.specs.declared.bound.BoundParts.{BoundParts}
use Rattle.canary_plan.specs.declared.strategy.CheckedStrategy.{CheckedStrategy}
use Rattle.canary_plan.specs.Plans.{strategy_of, bound_of, all_revisions}
use Rattle.canary_canonical.specs.Readings.{canonical_in}
use Rattle.canary_release.specs.declared.effect.Recorded.{Recorded}
use Rattle.canary_release.specs.declared.state.ServiceState.{ServiceState}
use Rattle.canary_release.specs.declared.state.ReleaseState.{ReleaseState}
use Rattle.canary_release.specs.declared.state.ReleaseState.TheVariants.{InProgress, Aborted, Done}
use Rattle.canary_release.specs.Desks.{ModelService}
use Rattle.canary_release.specs.Parts.{is_broken}
use Rattle.canary_release.specs.Pasts.{Past}
use Rattle.canary_release.specs.Stored.{stored_form}
use Rattle.canary_once.specs.Records.{record_of, past_of, past_in}
use Rattle.canary_tables_rows.specs.declared.rows.ServiceRow.{ServiceRow}
use Rattle.canary_tables_rows.specs.Tables.{Tables, is_service, is_measurement_of}
use Rattle.canary_tables_contents.specs.Numbers.{state_of, state_number, truth_of, bit, hold_of, hold_number}
use Rattle.canary_tables_contents.specs.Values.{service_row, standing_of, stand_from, stand_of, made_from, history_row, measurement_row, measurement_from, measurement_of_row}
use Rattle.canary_tables_contents.specs.Tables.{binding_rows, run_rows, tally_rows, IsReadableMeasurement, IsReadablePast}
use Rattle.canary_tables_contents.specs.Reading.{known_in, contents_of}
use Rattle.canary_tables_contents.specs.Finding.{AreRead}
use Rattle.canary_tables_contents.specs.Counting.{CountingIsExact, RunsAreTallied}
use Rattle.canary_tables_contents.specs.Services.{open_runs_in, IsServiceJudged, HoldServices}
use Rattle.canary_tables_contents.proofs.Named.{own_key, IsIn, OwnRow, own_row, own_alone}
use Rattle.canary_tables_contents.proofs.BindingRows.{number_of_bindings}
use Rattle.canary_tables_contents.proofs.ServicesJudgedRead.{IsBoundRun, IsReadOf, is_read}
use Rattle.canary_tables_contents.proofs.ServicesJudgedLists.{read_back}
use Rattle.canary_tables_contents.proofs.ServicesJudgedRuns.{HasRows, runs_are_judged, same_open, as_many_records}
use Rattle.canary_tables_contents.proofs.ServicesJudgedCounted.{are_counted, are_tallied}

-- How it stands is read back.

state_back : (s : ReleaseState) → state_of (state_number s) ≡ Some s
state_back InProgress = refl
state_back Aborted = refl
state_back Done = refl

truth_back : (b : Bool) → truth_of (bit b) ≡ Some b
truth_back true = refl
truth_back false = refl

hold_back : (a b : Bool) → hold_of (hold_number a b) ≡ Some (a, b)
hold_back false false = refl
hold_back true false = refl
hold_back false true = refl
hold_back true true = refl

stand_back : (name : List ℕ) (strategy : CheckedStrategy) (bound : BoundParts) (s : ServiceState) (runs : ℕ) → s.name ≡ name → s.strategy ≡ strategy → s.bound ≡ bound → stand_of name strategy bound (standing_of s runs) ≡ Some s
stand_back name strategy bound s runs named is to =
    (λ i. stand_from name strategy bound (standing_of s runs) (state_back s.state i) (hold_back s.step_hold s.background_hold i) (truth_back s.background i))
    ∙ (λ i. Some (record s { name = sym named i; strategy = sym is i; bound = sym to i }))

-- Its measurements are read back.

measurement_back : (name : List ℕ) (x : Recorded) → IsReadableMeasurement x → measurement_of_row (measurement_row name x) ≡ Some x
measurement_back name x readable = λ i. measurement_from (measurement_row name x) (readable.phase i) (readable.outcome i)

measurements_back : (t : Tables) (q : List ℕ) (m : ModelService) → HasRows t q m → AreRead measurement_of_row (filter (is_measurement_of q) t.measurements) m.past.measurements
measurements_back t q m has =
    let back = read_back (measurement_row q) measurement_of_row IsReadableMeasurement (measurement_back q) m.past.measurements has.readable.measurements in
    subst (λ rows. AreRead measurement_of_row rows m.past.measurements) (sym has.measurements) (record { values = back.0; each = back.1 })

-- A service that there is.

pub has_rows : (t : Tables) → HoldServices t → (q : List ℕ) (m : ModelService) → get (contents_of t).desk.services q ≡ Some m → AllByRecursion (IsBoundRun t q (strategy_of m.made)) m.past.runs → HasRows t q m
has_rows t hold q m there read =
    let past : past_of (contents_of t) q ≡ m.past = ap past_in there in
    record {
      bindings = λ number template. hold.bindings q number template ∙ ap (binding_rows q number template) there;
      runs = λ number. hold.runs q number ∙ ap (λ (p : Past). run_rows q number p.runs) past;
      tallies = λ number metric. hold.tallies q number metric ∙ ap (λ (p : Past). tally_rows q number metric p.runs) past;
      measurements = hold.measurements q ∙ ap (λ (p : Past). map (measurement_row q) p.measurements) past;
      history = hold.history q ∙ ap (λ (p : Past). map (history_row q) p.history) past;
      readable = subst IsReadablePast past (hold.pasts q);
      made = hold.made q m there;
      in_order = hold.in_order q m there;
      sound = hold.sound q m there;
      read = read;
    }

-- a service's row, and the service
pub record IsRowOf (t : Tables) (row : ServiceRow) : Type 0 where
  pub service : ModelService
  pub there : get (contents_of t).desk.services row.name ≡ Some service
  pub is : service_row row.name service ≡ row
  pub one : filter (is_service row.name) t.services ≡ row ∷ []
  pub has : HasRows t row.name service
  pub read : IsReadOf t row service

pub is_row_of : (t : Tables) → HoldServices t → (row : ServiceRow) → IsIn row t.services → IsRowOf t row
is_row_of t hold row at =
    let o : Option ModelService = get (contents_of t).desk.services row.name in
    let own : OwnRow (service_row row.name) o row = own_row (is_service row.name) (service_row row.name) o row t.services at (own_key row.name) (hold.services row.name) in
    let one : filter (is_service row.name) t.services ≡ row ∷ [] = own_alone (is_service row.name) (service_row row.name) o row t.services (hold.services row.name) own in
    let read : IsReadOf t row own.value = is_read t row own.value one own.there in
    record {
      service = own.value;
      there = own.there;
      is = own.is;
      one = one;
      has = has_rows t hold row.name own.value own.there read.runs;
      read = read;
    }

parts_again : (m : ModelService) → is_broken (stored_form m) ≡ false
    → is_broken (record { service = m.service; runs = record { count = length (map record_of m.past.runs); open_runs = open_runs_in (map record_of m.past.runs) } }) ≡ false
parts_again m e = (λ i. is_broken (record { service = m.service; runs = record { count = as_many_records m.past.runs i; open_runs = same_open m.past.runs i } })) ∙ e

pub service_is_judged : CountingIsExact → RunsAreTallied → (t : Tables) (row : ServiceRow) → IsRowOf t row → IsServiceJudged t row
service_is_judged exact tallied t row of =
    let m : ModelService = of.service in
    let has : HasRows t row.name m = of.has in
    let strategy : CheckedStrategy = strategy_of m.made in
    let bound : BoundParts = bound_of (known_in t row.name 0) strategy in
    record {
      one = of.one;
      made = m.made;
      is = ap (λ (r : ServiceRow). made_from (canonical_in r.spec)) (sym of.is) ∙ ap made_from has.made;
      named = has.in_order.named;
      accepted = has.in_order.accepted;
      service = m.service;
      stands =
          ap (λ (r : ServiceRow). stand_of row.name strategy bound r.standing) (sym of.is)
          ∙ stand_back row.name strategy bound m.service (length m.past.runs) has.in_order.shown has.in_order.strategy of.read.bound;
      bindings = number_of_bindings t row.name 0 (all_revisions m.service.bound) (has.bindings 0);
      runs = map record_of m.past.runs;
      as_many = as_many_records m.past.runs ∙ ap (λ (r : ServiceRow). r.standing.runs) of.is;
      each = runs_are_judged t row.name m has;
      measurements = m.past.measurements;
      read = measurements_back t row.name m has;
      counted = are_counted exact t row.name m has;
      tallied = are_tallied tallied t row.name m has;
      history = m.past.history;
      told = has.history;
      lines = has.readable.history;
      parts = parts_again m has.in_order.parts;
    }
