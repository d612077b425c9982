use Rattle.std.proofs.Common.{◌≡◌, Err, rules, sym, ◌∙◌, subst}
use Rattle.canary_tables_read.specs.declared.fault.ReadFault.TheVariants.{Broken}
use Rattle.std.specs.List.{AllByRecursion}
use Rattle.canary_tables_contents.specs.Judged.{IsCallerJudged}
use Rattle.canary_tables_adopt.proofs.Standing.{stores_then}
use Rattle.canary_tables_adopt.proofs.callers.validate.Goals as goal

pub returns-in_err-settled-clause-refused : goal.returns-in_err-settled-clause-refused
returns-in_err-settled-clause-refused g c usable t has is judged =
    let broken : c.judge_each.result ≡ Err Broken = search rules in
    let mid = (c.judge_each.ensures.reads.same usable).0 in
    c.judge_each.ensures.refused usable t (stores_then (g.Q.Reader.shows c.args.conn.now) (g.Q.Reader.shows c.callers.new.conn) t c.callers.ensures.reads.same mid has) broken
    (judged.0, subst (AllByRecursion (IsCallerJudged t)) (sym (c.as_slice.ensures ∙ c.in_ok-callers.ensures.found mid t has)) judged.1.each)

pub returns-in_err-callers-clause-refused : goal.returns-in_err-callers-clause-refused
returns-in_err-callers-clause-refused g c usable t has is judged =
    let broken : c.callers.result ≡ Err Broken = search rules in
    c.callers.ensures.broken usable t has broken judged.0.callers
