use Rattle.std.proofs.Common.{◌∙◌, sym, ap}
use Rattle.canary_plan.specs.Lines.{words}
use Rattle.canary_plan.proofs.line_words.words.Goals as goal

pub returns-in-AnalysisEntered-clause-value : goal.returns-in-AnalysisEntered-clause-value
returns-in-AnalysisEntered-clause-value c = c.of_step-in-AnalysisEntered.ensures.bytes ∙ ap words (sym c.in-AnalysisEntered.is)
