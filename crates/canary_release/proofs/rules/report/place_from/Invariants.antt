use Rattle.std.proofs.Common.{◌≡◌, drop}
use Rattle.canary_release.specs.Rules.Reports.{place_from}
use Rattle.canary_release.proofs.rules.report.place_from.Given as goal

-- the metric of that name is among those left
abbrev pub invariant-loop-metric : goal.invariant-loop-metric
invariant-loop-metric l =
    (place_from l.place l.name (drop l.metric-index l.metrics) l.rest ≡ place_from 0 l.name l.metrics l.tallies) × (l.place ≡ l.metric-index)
