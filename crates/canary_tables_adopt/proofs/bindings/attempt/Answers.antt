use Rattle.std.proofs.Common.{◌≡◌, Err, rules}
use Rattle.canary_tables_read.specs.declared.fault.ReadFault.TheVariants.{Broken}
use Rattle.canary_tables_adopt.proofs.KnownBindings.{attempt_whole}
use Rattle.canary_tables_adopt.proofs.bindings.attempt.Goals as goal

pub returns-in_err-binding-clause-broken : goal.returns-in_err-binding-clause-broken
returns-in_err-binding-clause-broken g c usable t has judged is within such =
    let broken : c.bound.result ≡ Err Broken = search rules in
    c.bound.ensures.broken usable t has judged broken within (attempt_whole t c.args.service.now c.args.strategy.now such.0 c.bindings.ensures.attempts judged such.1)
