-- What is judged of runs and measurements by counting anew.
use Rattle.std.specs.Prelude.{◌≡◌, List, map}
use Rattle.canary_release.specs.declared.effect.Recorded.{Recorded}
use Rattle.canary_once.specs.declared.record.RunRecord.{RunRecord}
use Rattle.canary_tables_contents.specs.Counting.{none_counted, counted_all, AreCounted}
use Rattle.canary_tables_contents.specs.Services.{metrics_of_runs, HasVerdictBy}

-- the run has the verdict of its metrics
abbrev pub HasOwnVerdict : RunRecord → Type 0
HasOwnVerdict r = HasVerdictBy r.analysis.metrics r.tallies r.closed

-- the measurements come one after another, and to the tallies of the runs
pub record AreTallied (runs : List RunRecord) (measurements : List Recorded) : Type 0 where
  pub counted : AreCounted (metrics_of_runs runs) (none_counted (metrics_of_runs runs))
      measurements
  pub tallied : map (λ (r : RunRecord). r.tallies) runs
      ≡ counted_all (none_counted (metrics_of_runs runs)) measurements
