use Rattle.std.proofs.Common.{◌≡◌, Err, rules, ◌∙◌}
use Rattle.std.proofs.lemmas.Result.{IfOk-weaker}
use Rattle.canary_tables_read.specs.declared.fault.ReadFault.TheVariants.{Broken}
use Rattle.canary_tables_adopt.proofs.JudgedStrategies.{strategy_told, strategy_refused}
use Rattle.canary_tables_adopt.proofs.strategies.strategy.Goals as goal

pub returns-clause-found : goal.returns-clause-found
returns-clause-found g c usable t has judged =
    IfOk-weaker c.checked.result _ _ (λ strategy is. strategy_told t c.args.spec.now c.as_slice.result.now c.in_ok-known.known strategy (c.as_slice.ensures ∙ c.in_ok-names.ensures) (c.in_ok-known.ensures.found usable t has judged) is) c.checked.ensures.strategy

pub returns-clause-broken : goal.returns-clause-broken
returns-clause-broken g c usable t has judged is within =
    strategy_refused t c.args.spec.now c.as_slice.result.now c.in_ok-known.known (c.as_slice.ensures ∙ c.in_ok-names.ensures) (c.in_ok-known.ensures.found usable t has judged) (c.checked.ensures.broken is)

pub returns-in_err-known-clause-broken : goal.returns-in_err-known-clause-broken
returns-in_err-known-clause-broken g c usable t has judged is within accepted =
    let broken : c.templates_of.result ≡ Err Broken = search rules in
    c.templates_of.ensures.broken usable t has judged broken within
