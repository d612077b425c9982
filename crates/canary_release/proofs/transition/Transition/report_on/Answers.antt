use Rattle.std.proofs.Common.{◌≡◌, ◌∙◌, List, map, ap}
use Rattle.canary_condition.specs.declared.outcome.Phase.{Phase}
use Rattle.canary_plan.specs.declared.report.Entry.{Entry}
use Rattle.canary_release.specs.declared.effect.Recorded.{Recorded}
use Rattle.canary_release.specs.declared.reply.Reported.{Reported}
use Rattle.canary_release.specs.declared.runs.OpenRun.{OpenRun}
use Rattle.canary_release.specs.Evolutions.{Evolution, open_run_now}
use Rattle.canary_release.specs.Rules.Reports.{brought, record_all, verdict_if, reported_on}
use Rattle.canary_release.specs.Stored.{evolution_of}
use Rattle.canary_release.proofs.transition.Transition.report_on.Goals as goal

-- what a report adds to its reply, from what was brought and recorded
reported_is : (c a : Evolution) (r : OpenRun) (es : List Entry) (xs ys zs : List Recorded) (phases : List Phase) (v : Phase) → xs ≡ brought r.analysis.metrics r es → ys ≡ xs → zs ≡ xs → a ≡ record_all c ys → phases ≡ map (λ (x : Recorded). x.phase) zs
    → v ≡ verdict_if a (open_run_now a r.number) → ◌≡◌ {A = Reported} (record { phases = phases; run = r.number; verdict = v }) (reported_on c r es)
reported_is c a r es xs ys zs phases v xs_is ys_is zs_is a_is phases_is v_is =
    let all = a_is ∙ ap (record_all c) (ys_is ∙ xs_is) in
    let shown = phases_is ∙ ap (map (λ (x : Recorded). x.phase)) (zs_is ∙ xs_is) in
    let judged = v_is ∙ (λ i. verdict_if (all i) (open_run_now (all i) r.number)) in
    λ i. record { phases = shown i; run = r.number; verdict = judged i }

pub returns-clause-shows : goal.returns-clause-shows
returns-clause-shows c =
    reported_is (evolution_of c.args.self) (evolution_of c.in_ok-all.all) c.args.run.now c.args.entries.now c.in_ok-measurements.measurements c.as_slice.result.now c.as_slice-2.result.now c.in_ok-phases.phases c.verdict_of-verdict.result
    c.in_ok-measurements.ensures c.as_slice.ensures c.as_slice-2.ensures c.in_ok-all.ensures.recorded c.in_ok-phases.ensures c.verdict_of-verdict.ensures
