use Rattle.std.proofs.Common.{rules}
use Rattle.json.specs.Value.{value_view}
use Rattle.canary_provider.specs.Answers.{text_item, IsScalar, Refutes}
use Rattle.canary_provider.proofs.ValueLemmas.{no_scalar}
use Rattle.canary_provider.proofs.prometheus.scalar.Goals as goal

pub returns-in_err-number-in-Some-clause-complete : goal.returns-in_err-number-in-Some-clause-complete
returns-in_err-number-in-Some-clause-complete c =
    let none : Refutes (IsScalar (text_item 1 (value_view c.args.value.now))) c.in_err-number-in-Some.field-0.0 =
    no_scalar c.in-Some.text.now (text_item 1 (value_view c.args.value.now)) c.in_err-number-in-Some.field-0.0 (search rules) c.in_err-number-in-Some.ensures.complete in
    search rules
