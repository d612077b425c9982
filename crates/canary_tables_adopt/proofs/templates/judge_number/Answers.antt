use Rattle.std.proofs.Common.{◌≡◌, Err, rules}
use Rattle.canary_tables_read.specs.declared.fault.ReadFault.TheVariants.{Broken}
use Rattle.canary_tables_adopt.proofs.templates.judge_number.Goals as goal

pub returns-in_err-revision-clause-refused : goal.returns-in_err-revision-clause-refused
returns-in_err-revision-clause-refused g c usable t has is judged =
    let broken : c.revision.result ≡ Err Broken = search rules in
    c.revision.ensures.broken usable t has broken judged.0.revisions
