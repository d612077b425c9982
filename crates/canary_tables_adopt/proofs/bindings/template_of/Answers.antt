use Rattle.std.proofs.Common.{◌≡◌, Err, rules}
use Rattle.canary_tables_read.specs.declared.fault.ReadFault.TheVariants.{Broken}
use Rattle.canary_tables_adopt.proofs.bindings.template_of.Goals as goal

pub returns-in_err-found-clause-broken : goal.returns-in_err-found-clause-broken
returns-in_err-found-clause-broken g c usable t has is within =
    let broken : c.revision.result ≡ Err Broken = search rules in
    c.revision.ensures.broken usable t has broken within.revisions
