use Rattle.std.proofs.Common.{◌≡◌, ◌∙◌, ap, rules}
use Rattle.std.specs.Prelude.{option_map}
use Rattle.std.proofs.lemmas.Result.{IfOk-weaker}
use Rattle.canary_condition.specs.declared.outcome.Value.{Value}
use Rattle.canary_condition.specs.declared.outcome.Outcome.TheVariants.{Result as Brought}
use Rattle.canary_condition.proofs.OutcomesRead.{failure_read, result_read}
use Rattle.canary_condition.proofs.outcome.Outcome.read.Goals as goal

pub returns-in-Some-clause-value : goal.returns-in-Some-clause-value
returns-in-Some-clause-value c = IfOk-weaker c.failure_outcome.result _ _ (λ found e. e ∙ failure_read c.args.text.now c.in-Some.failure.now c.in-Some.ensures) c.failure_outcome.ensures

pub returns-in-None-clause-value : goal.returns-in-None-clause-value
returns-in-None-clause-value c =
    let mapped : c.map.result ≡ option_map (λ (value : Value). Brought value) c.read.result = search rules in
    mapped ∙ ap (option_map (λ (value : Value). Brought value)) c.read.ensures.value ∙ result_read c.args.text.now c.in-None.ensures
