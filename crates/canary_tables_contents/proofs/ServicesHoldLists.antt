-- If services are judged, the rows of their measurements and lines are those of contents.
use Rattle.std.proofs.Common.{◌≡◌, inl, inr, ℕ, List, Bool, true, refl, sym, ap, ◌∙◌, subst}
use Rattle.std.specs.Prelude.{filter, map}
use Rattle.std.specs.List.{AllByRecursion}
use Rattle.canary_release.specs.Pasts.{Past}
use Rattle.canary_once.specs.Records.{past_of}
use Rattle.canary_tables_rows.specs.declared.rows.ServiceRow.{ServiceRow}
use Rattle.canary_tables_rows.specs.declared.rows.MeasurementRow.{MeasurementRow}
use Rattle.canary_tables_rows.specs.declared.rows.HistoryRow.{HistoryRow}
use Rattle.canary_tables_rows.specs.Tables.{Tables, is_measurement_of, is_line_of}
use Rattle.canary_tables_contents.specs.Values.{measurement_row, history_row}
use Rattle.canary_tables_contents.specs.Tables.{IsReadableMeasurement}
use Rattle.canary_tables_contents.specs.Reading.{contents_of}
use Rattle.canary_tables_contents.specs.Services.{IsServiceJudged, AreServicesJudged}
use Rattle.canary_tables_contents.proofs.Named.{each_in, passing, weaker}
use Rattle.canary_tables_contents.proofs.NamedRows.{no_other_name}
use Rattle.canary_tables_contents.proofs.MeasurementRows.{measurements_again}
use Rattle.canary_tables_contents.proofs.ServicesHoldRuns.{service_name, services_once, none_or_service, past_gone, past_there}

abbrev measured_service : MeasurementRow → List ℕ
measured_service row = row.service

abbrev told_service : HistoryRow → List ℕ
told_service row = row.service

pub kept_pass : {X : Type 0} (p : X → Bool) (xs : List X) → AllByRecursion (λ x. p x ≡ true) (filter p xs)
kept_pass p xs = weaker (λ x. (p x ≡ true) × (x ≡ x)) (λ x. p x ≡ true) (λ x h. h.0) (filter p xs) (passing p (λ x. x ≡ x) xs (each_in (λ x. x ≡ x) xs (λ x at. refl)))

pub measurements_under : (t : Tables) (row : ServiceRow) (j : IsServiceJudged t row)
    → (filter (is_measurement_of row.name) t.measurements ≡ map (measurement_row row.name) j.measurements) × AllByRecursion IsReadableMeasurement j.measurements
measurements_under t row j = measurements_again row.name (filter (is_measurement_of row.name) t.measurements) j.measurements (kept_pass (is_measurement_of row.name) t.measurements) j.read.each

pub measurements_hold_at : (t : Tables) → AreServicesJudged t → (q : List ℕ) → filter (is_measurement_of q) t.measurements ≡ map (measurement_row q) (past_of (contents_of t) q).measurements
measurements_hold_at t judged q =
    elim (none_or_service t judged q) as (λ x. filter (is_measurement_of q) t.measurements ≡ map (measurement_row q) (past_of (contents_of t) q).measurements) [
      | inl none ↦
          no_other_name service_name measured_service t.services t.measurements (services_once t judged) judged.measurements q none
          ∙ ap (λ (p : Past). map (measurement_row q) p.measurements) (sym (past_gone t q none))
      | inr one ↦ subst (λ n. filter (is_measurement_of n) t.measurements ≡ map (measurement_row n) (past_of (contents_of t) n).measurements) one.named
          ((measurements_under t one.row one.has.judged).0 ∙ ap (λ (p : Past). map (measurement_row one.row.name) p.measurements) (sym (past_there t one.row one.has.judged)))
    ]

pub history_holds_at : (t : Tables) → AreServicesJudged t → (q : List ℕ) → filter (is_line_of q) t.history ≡ map (history_row q) (past_of (contents_of t) q).history
history_holds_at t judged q =
    elim (none_or_service t judged q) as (λ x. filter (is_line_of q) t.history ≡ map (history_row q) (past_of (contents_of t) q).history) [
      | inl none ↦
          no_other_name service_name told_service t.services t.history (services_once t judged) judged.history q none
          ∙ ap (λ (p : Past). map (history_row q) p.history) (sym (past_gone t q none))
      | inr one ↦ subst (λ n. filter (is_line_of n) t.history ≡ map (history_row n) (past_of (contents_of t) n).history) one.named
          (one.has.judged.told ∙ ap (λ (p : Past). map (history_row one.row.name) p.history) (sym (past_there t one.row one.has.judged)))
    ]
