-- Services of contents are judged, key by key.
use Rattle.canary_tables_rows.specs.Tables.{Tables}
use Rattle.canary_tables_contents.specs.Counting.{CountingIsExact, RunsAreTallied}
use Rattle.canary_tables_contents.specs.Services.{IsServiceJudged, AreServicesJudged, HoldServices}
use Rattle.canary_tables_contents.proofs.Named.{each_in}
use Rattle.canary_tables_contents.proofs.ServicesJudgedOne.{is_row_of, service_is_judged}
use Rattle.canary_tables_contents.proofs.ServicesJudgedSums.{sum_of_runs, sum_of_bindings, sum_of_tallies, sum_of_measurements, sum_of_lines}

pub services_judged : CountingIsExact → RunsAreTallied → (t : Tables) → HoldServices t → AreServicesJudged t
services_judged exact tallied t hold = record {
  each = each_in (IsServiceJudged t) t.services (λ row at. service_is_judged exact tallied t row (is_row_of t hold row at));
  runs = sum_of_runs t hold;
  bindings = sum_of_bindings t hold;
  tallies = sum_of_tallies t hold;
  measurements = sum_of_measurements t hold;
  history = sum_of_lines t hold;
}
