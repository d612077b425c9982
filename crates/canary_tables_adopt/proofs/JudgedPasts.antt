-- What is past of a service that is judged is what is read of it.
use Rattle.std.proofs.Common.{◌≡◌, List, false, sym, subst, ◌∙◌}
use Rattle.canary_release.specs.declared.effect.Recorded.{Recorded}
use Rattle.canary_release.specs.declared.state.ServiceState.{ServiceState}
use Rattle.canary_release.specs.Parts.{is_broken}
use Rattle.canary_once.specs.declared.record.RunRecord.{RunRecord}
use Rattle.canary_tables_rows.specs.declared.rows.ServiceRow.{ServiceRow}
use Rattle.canary_tables_rows.specs.Tables.{Tables}
use Rattle.canary_tables_contents.specs.Services.{open_runs_in}
use Rattle.canary_tables_adopt.specs.OfService.{AreRunsOf, AreMeasurementsOf}
use Rattle.canary_tables_contents.specs.Recounted.{AreTallied}
use Rattle.canary_tables_adopt.specs.OneService.{IsPastJudged}
use Rattle.canary_tables_adopt.proofs.RunsSame.{same_runs}

pub tallied_there : (t : Tables) (row : ServiceRow) (service : ServiceState) (runs : List RunRecord) (measurements : List Recorded) → AreRunsOf service.strategy row.name row.standing.runs t runs → AreMeasurementsOf row.name t measurements → IsPastJudged t row service
    → AreTallied runs measurements
tallied_there t row service runs measurements are read past =
    subst (λ rs. AreTallied rs measurements) (same_runs t service.strategy row.name row.standing.runs past.runs runs past.are are)
    (subst (λ ms. AreTallied past.runs ms) (sym past.read.values ∙ read.values) past.tallied)

pub parts_there : (t : Tables) (row : ServiceRow) (service : ServiceState) (runs : List RunRecord) → AreRunsOf service.strategy row.name row.standing.runs t runs → IsPastJudged t row service
    → is_broken (record { service = service; runs = record { count = row.standing.runs; open_runs = open_runs_in runs } }) ≡ false
parts_there t row service runs are past =
    subst (λ rs. is_broken (record { service = service; runs = record { count = row.standing.runs; open_runs = open_runs_in rs } }) ≡ false) (same_runs t service.strategy row.name row.standing.runs past.runs runs past.are are) past.parts
