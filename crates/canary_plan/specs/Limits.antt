-- The limits of what templates and reports are made of.
use Rattle.std.specs.Prelude.{ℕ, nat_le, nat_lt, ◌&&◌, Bool, true, List, length, Option, Some, None}

-- at most 1,000,000
abbrev pub is_limit : ℕ → Bool
is_limit n = nat_le n 1000000

-- absent, or 1 to 1,000,000
abbrev pub is_count : Option ℕ → Bool
is_count None = true
is_count (Some n) = nat_le 1 n && is_limit n

-- absent, or not empty
abbrev pub is_condition_asked : Option (List ℕ) → Bool
is_condition_asked None = true
is_condition_asked (Some text) = nat_lt 0 (length text)

-- the conditions, the counts, of measurements and of successes in a row, and the limits of a metric
abbrev pub are_metric_limits : Option (List ℕ) → Option (List ℕ) → Option ℕ → Option ℕ → ℕ → ℕ → ℕ
    → Bool
are_metric_limits success failure count passes failed inconclusive errors =
    is_condition_asked success
    && (is_condition_asked failure
    && (is_count count
    && (is_count passes && (is_limit failed && (is_limit inconclusive && is_limit errors)))))

-- 1 to 63 bytes: a name under `dryRun`
abbrev pub is_dry_run_name : List ℕ → Bool
is_dry_run_name name = nat_le 1 (length name) && nat_le (length name) 63

-- 1 to 32 metrics of a template, or entries of a report
abbrev pub is_metric_count : ℕ → Bool
is_metric_count n = nat_le 1 n && nat_le n 32

-- 1 to 1,000,000,000: an ordinal, or the number of a run
abbrev pub is_ordinal : ℕ → Bool
is_ordinal n = nat_le 1 n && nat_le n 1000000000

-- the run and the number of entries of a report
abbrev pub are_report_limits : ℕ → ℕ → Bool
are_report_limits run entries = is_ordinal run && is_metric_count entries
