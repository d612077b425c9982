-- When a measurement is late.
use Rattle.std.specs.Prelude.{ℕ, ◌-◌, ◌&&◌, nat_lt, not, Bool, false, unwrap_or}
use Rattle.canary_metric.specs.Metrics.{MetricValue}
use Rattle.canary_metric.specs.Counts.{Counts}
use Rattle.canary_metric.specs.MetricPhases.{phase_of_counts, is_completed, due_of_counts}

-- the seconds from one measurement of a metric to its next: its interval, or 10
abbrev pub interval_of : MetricValue → ℕ
interval_of m = unwrap_or m.interval 10

-- the metric wants a measurement, in an open run that started at that moment, and this one is later
-- than the moment at which it is due by more than the interval
abbrev pub is_late : MetricValue → Counts → ℕ → ℕ → Bool
is_late m c started now =
    not (is_completed (phase_of_counts m c false))
    && nat_lt (interval_of m) (now - due_of_counts m started c)
