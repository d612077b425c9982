-- Rows of the first schema that a program can hold, if it can hold what they become.
use Rattle.std.proofs.Common.{◌≡◌, ◌≤◌, ◌<◌, ◌^◌, ℕ, List, [], ◌∷◌, map, ◌+◌, arith}
use Rattle.std.specs.List.{AllByRecursion}
use Rattle.canary_metric.specs.Counts.{AreConsistent}
use Rattle.canary_tables_rows.specs.declared.rows.MeasurementRow.{MeasurementRow}
use Rattle.canary_tables_rows.specs.Limits.{FitsNumber, IsRevisionWithin, IsTallyWithin}
use Rattle.canary_tables_read.specs.declared.first.TemplateRow.{TemplateRow}
use Rattle.canary_tables_read.specs.declared.first.FirstTally.{FirstTally}
use Rattle.canary_tables_read.specs.First.{IsTemplateWithin, IsFirstTallyWithin}
use Rattle.canary_migrate.specs.Migrated.{first_revision, tally_of}

pub templates_within : (rows : List TemplateRow) → AllByRecursion IsRevisionWithin (map first_revision rows) → AllByRecursion IsTemplateWithin rows
templates_within [] h = tt
templates_within (row ∷ rows) h = (record { name = h.0.name; spec = h.0.spec }, templates_within rows h.1)

few : (n : ℕ) → n ≤ 1000000 → FitsNumber n
few n h = omega (arith, h)

one_within : (measurements : List MeasurementRow) (row : FirstTally) → IsTallyWithin (tally_of measurements row) → IsFirstTallyWithin row
one_within measurements row h =
    let c = h.counts in
    record {
      service = h.service;
      run = h.run;
      metric = h.metric;
      counted = few row.counted (omega (arith, c.within));
      failed = few row.failed (omega (arith, c.within, c.kinds));
      inconclusive = few row.inconclusive (omega (arith, c.within, c.kinds));
      errors = few row.errors (omega (arith, c.within));
      consecutive = few row.consecutive (omega (arith, c.within, c.trailing));
      last = h.last;
    }

pub tallies_within : (measurements : List MeasurementRow) (rows : List FirstTally) → AllByRecursion IsTallyWithin (map (tally_of measurements) rows) → AllByRecursion IsFirstTallyWithin rows
tallies_within measurements [] h = tt
tallies_within measurements (row ∷ rows) h = (one_within measurements row h.0, tallies_within measurements rows h.1)
