use Rattle.std.proofs.Common.{sym, ◌∙◌, ◌≡◌, Err, rules}
use Rattle.std.proofs.lemmas.Result.{IfOk-weaker}
use Rattle.canary_tables_adopt.proofs.JudgedServices.{service_found, no_service, service_there}
use Rattle.canary_tables_adopt.proofs.Standing.{stores_then}
use Rattle.canary_tables_read.specs.declared.fault.ReadFault.TheVariants.{Broken}
use Rattle.canary_tables_adopt.proofs.one_service.service.validate.Goals as goal

pub returns-in_err-rows-clause-refused : goal.returns-in_err-rows-clause-refused
returns-in_err-rows-clause-refused g c usable t has judged is within under =
    let broken : c.service_rows.result ≡ Err Broken = search rules in
    c.service_rows.ensures.broken usable t has broken within.services

pub returns-in_default-clause-refused : goal.returns-in_default-clause-refused
returns-in_default-clause-refused g c usable t has judged is within =
    no_service t c.args.name.now c.in_ok-rows.rows (c.in_ok-rows.ensures.found usable t has) (sym c.only.ensures ∙ c.in_default.is)

pub returns-clause-judged : goal.returns-clause-judged
returns-clause-judged g c usable t has judged =
    let mid = (c.judge_row.ensures.reads.same usable).0 in
    IfOk-weaker c.judge_row.result _ _
    (λ totals is. service_found t c.args.name.now c.in_ok-rows.rows c.in-Some.row totals (c.in_ok-rows.ensures.found mid t has) (sym c.only.ensures ∙ c.in-Some.is) is)
    (c.judge_row.ensures.judged usable t (stores_then (g.Q.Reader.shows c.args.conn.now) (g.Q.Reader.shows c.service_rows.new.conn) t c.service_rows.ensures.reads.same mid has) judged)

pub returns-clause-refused : goal.returns-clause-refused
returns-clause-refused g c usable t has judged is within under =
    let mid = (c.judge_row.ensures.reads.same usable).0 in
    c.judge_row.ensures.refused usable t (stores_then (g.Q.Reader.shows c.args.conn.now) (g.Q.Reader.shows c.service_rows.new.conn) t c.service_rows.ensures.reads.same mid has) judged is within
    (service_there t c.args.name.now c.in_ok-rows.rows c.in-Some.row (c.in_ok-rows.ensures.found mid t has) (sym c.only.ensures ∙ c.in-Some.is) under)
