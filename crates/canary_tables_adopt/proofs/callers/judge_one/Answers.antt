use Rattle.std.proofs.Common.{◌≡◌, Err, rules}
use Rattle.canary_tables_read.specs.declared.fault.ReadFault.TheVariants.{Broken}
use Rattle.canary_tables_adopt.proofs.callers.judge_one.Goals as goal

pub returns-in_err-rows-clause-refused : goal.returns-in_err-rows-clause-refused
returns-in_err-rows-clause-refused g c usable t has is judged =
    let broken : c.caller_rows.result ≡ Err Broken = search rules in
    c.caller_rows.ensures.broken usable t has broken judged.0.callers
