use Rattle.std.proofs.Common.{◌∙◌, ◌++◌, ap}
use Rattle.std.specs.Prelude.{codes}
use Rattle.std.specs.Fmt.{decimal}
use Rattle.canary_condition.specs.PhaseTexts.{phase_text}
use Rattle.canary_metric.specs.MetricPhases.{phase_of_counts}
use Rattle.canary_once.proofs.view_run.metric_back.Goals as goal

pub returns : goal.returns
returns c =
    let phase = c.text-phase.ensures ∙ ap phase_text (c.phase.ensures.value ∙ ap (phase_of_counts c.args.metric.now c.args.tally.now) c.is_some.ensures) in
    c.in_ok-format.ensures.ok ∙ (λ i. codes ",\"name\":\"" ++ (c.name-name.ensures i ++ (codes "\",\"passes\":" ++ (decimal (c.passes-passes.ensures.value i) ++ (codes ",\"phase\":\"" ++ (phase i ++ codes "\"}"))))))
