-- A run is closed: what this makes of the rows of a past.
use Rattle.std.proofs.Common.{◌≡◌, ℕ, suc, List, [], ◌∷◌, Bool, true, false, refl, ap, sym, ◌∙◌}
use Rattle.std.specs.Prelude.{◌==◌, ◌&&◌, if◌then◌else◌, map, Option, Some, None, option_map}
use Rattle.std.specs.Str.{bytes_eq}
use Rattle.canary_metric.specs.Counts.{Counts}
use Rattle.canary_release.specs.declared.effect.Closing.{Closing}
use Rattle.canary_release.specs.declared.effect.Effect.TheVariants.{RunClosed}
use Rattle.canary_release.specs.Effects.{Closes}
use Rattle.canary_release.specs.Order.{AreNumbered}
use Rattle.canary_release.specs.Pasts.{Run, Past, closed_in, tracked}
use Rattle.canary_tables_rows.specs.declared.rows.RunRow.{RunRow}
use Rattle.canary_tables_rows.specs.Tables.{Tables, is_run}
use Rattle.canary_tables_rows.specs.Changes.{change_where, IsOne}
use Rattle.canary_tables_contents.specs.Values.{ending_of, run_row}
use Rattle.canary_tables_contents.specs.Tables.{row_if, run_at, run_rows, tally_rows, tally_rows_of}
use Rattle.canary_tables_contents.proofs.PastRows.{ArePastRows}
use Rattle.canary_tables_contents.proofs.Filters.{own_name, turned, changed_under, left_alone, first_holds, apart_by_name}
use Rattle.canary_tables_contents.proofs.RunsAt.{same_numbers, same_bound, run_in_map, StandsThere, found_stands}
use Rattle.canary_tables_contents.proofs.OneHappens.{OneHappens}

abbrev with_end : Closing → RunRow → RunRow
with_end x row = record row { ending = ending_of (Some x) }

-- the row of the run

row_closed : (name : List ℕ) (x : Closing) (r : Run) (t : Bool) → (r.number == x.run) ≡ t
    → (if is_run name x.run (run_row name r) then with_end x (run_row name r) else run_row name r) ≡ run_row name (closed_in x r)
row_closed name x r true t = rw (own_name name, turned r.number x.run true t, t) refl
row_closed name x r false t = rw (own_name name, turned r.number x.run false t, t) refl

rows_if_closed : (name : List ℕ) (x : Closing) (o : Option Run) → change_where (is_run name x.run) (with_end x) (row_if (run_row name) o) ≡ row_if (run_row name) (option_map (closed_in x) o)
rows_if_closed name x None = refl
rows_if_closed name x (Some r) = ap (λ (row : RunRow). row ∷ []) (row_closed name x r (r.number == x.run) refl)

run_rows_closed : (name : List ℕ) (x : Closing) (number : ℕ) (runs : List Run) → change_where (is_run name x.run) (with_end x) (run_rows name number runs) ≡ run_rows name number (map (closed_in x) runs)
run_rows_closed name x number runs = rows_if_closed name x (run_at number runs) ∙ ap (row_if (run_row name)) (sym (run_in_map (closed_in x) number runs))

-- tallies are as they were

tallies_if_closed : (name : List ℕ) (number metric : ℕ) (x : Closing) (r : Run) (t : Bool) → (r.number == x.run) ≡ t → tally_rows_of name number metric (Some r) ≡ tally_rows_of name number metric (Some (closed_in x r))
tallies_if_closed name number metric x r true t = rw t refl
tallies_if_closed name number metric x r false t = rw t refl

tallies_of_closed : (name : List ℕ) (number metric : ℕ) (x : Closing) (o : Option Run) → tally_rows_of name number metric o ≡ tally_rows_of name number metric (option_map (closed_in x) o)
tallies_of_closed name number metric x None = refl
tallies_of_closed name number metric x (Some r) = tallies_if_closed name number metric x r (r.number == x.run) refl

tally_rows_closed : (name : List ℕ) (number metric : ℕ) (x : Closing) (runs : List Run) → tally_rows name number metric runs ≡ tally_rows name number metric (map (closed_in x) runs)
tally_rows_closed name number metric x runs = tallies_of_closed name number metric x (run_at number runs) ∙ ap (tally_rows_of name number metric) (sym (run_in_map (closed_in x) number runs))

same_number : (x : Closing) (r : Run) (t : Bool) → (r.number == x.run) ≡ t → (closed_in x r).number ≡ r.number
same_number x r true t = rw t refl
same_number x r false t = rw t refl

same_analysis : (x : Closing) (r : Run) (t : Bool) → (r.number == x.run) ≡ t → (closed_in x r).analysis ≡ r.analysis
same_analysis x r true t = rw t refl
same_analysis x r false t = rw t refl

-- the run is there

stands_in_rows : (name : List ℕ) (number : ℕ) (t : Tables) (p : Past) (r : Run) → ArePastRows t name p → run_at number p.runs ≡ Some r → IsOne (is_run name number) t.runs
stands_in_rows name number t p r are there = (run_row name r, are.runs number ∙ ap (row_if (run_row name)) there)

pub closed_happens : (name : List ℕ) (x : Closing) (tallies : List Counts) (t : Tables) (p : Past)
    → ArePastRows t name p → AreNumbered 1 p.runs → Closes (tracked p) x tallies → OneHappens name (RunClosed x tallies) t p
closed_happens name x tallies t p are numbered closes =
    let stands : StandsThere p.runs x.run closes.run = found_stands p.runs x.run closes.run numbered closes.found in
    record {
      rows = record {
        runs = λ number.
            changed_under (is_run name number) (is_run name x.run) (with_end x) (λ row. refl) t.runs
            ∙ ap (change_where (is_run name x.run) (with_end x)) (are.runs number)
            ∙ run_rows_closed name x number p.runs;
        bindings = λ place template. are.bindings place template ∙ same_bound name (suc place) template (closed_in x) (λ r. same_analysis x r (r.number == x.run) refl) p.runs;
        tallies = λ number metric. are.tallies number metric ∙ tally_rows_closed name number metric x p.runs;
        measurements = are.measurements;
        history = are.history;
      };
      asks = stands_in_rows name x.run t p stands.run are stands.there;
      others = λ q differ. record {
        runs = λ number.
            left_alone (is_run q number) (is_run name x.run) (with_end x) (λ row. refl)
            (λ row e. ap (λ b. b && (x.run == row.number)) (apart_by_name q name row.service differ (first_holds (bytes_eq q row.service) (number == row.number) e))) t.runs;
        bindings = λ place template. refl;
        tallies = λ number metric. refl;
        measurements = refl;
        history = refl;
      };
      rest = record { callers = refl; kept = refl; revisions = refl; services = refl; attempts = λ q template. refl };
      numbered = same_numbers (closed_in x) (λ r. same_number x r (r.number == x.run) refl) 1 p.runs numbered;
    }
