use Rattle.std.proofs.Common.{◌≡◌, Err, rules, ◌∙◌}
use Rattle.std.proofs.lemmas.Result.{IfOk-weaker}
use Rattle.canary_tables_read.specs.declared.fault.ReadFault.TheVariants.{Broken}
use Rattle.canary_tables_adopt.proofs.AllServices.{services_judged, totals_there, each_service}
use Rattle.canary_tables_adopt.proofs.Standing.{stores_then, same_then}
use Rattle.canary_tables_adopt.proofs.services.validate.Goals as goal

pub returns-in_err-names-clause-refused : goal.returns-in_err-names-clause-refused
returns-in_err-names-clause-refused g c usable t has judged is within services =
    let broken : c.service_names.result ≡ Err Broken = search rules in
    c.service_names.ensures.broken usable t has broken within.services

pub returns-in_err-totals-clause-refused : goal.returns-in_err-totals-clause-refused
returns-in_err-totals-clause-refused g c usable t has judged is within services =
    let broken : c.judge_each.result ≡ Err Broken = search rules in
    let mid = (c.judge_each.ensures.reads.same usable).0 in
    c.judge_each.ensures.refused usable t (stores_then (g.Q.Reader.shows c.args.conn.now) (g.Q.Reader.shows c.service_names.new.conn) t c.service_names.ensures.reads.same mid has) judged broken within
    (each_service t c.as_slice.result.now (c.as_slice.ensures ∙ c.in_ok-names.ensures.found mid t has) services)

pub returns-clause-judged : goal.returns-clause-judged
returns-clause-judged g c usable t has judged =
    let after = (c.are_all.ensures.reads.same usable).0 in
    let mid = (c.judge_each.ensures.reads.same after).0 in
    IfOk-weaker c.are_all.result _ _
    (λ done have. services_judged t c.as_slice.result.now c.in_ok-totals.totals c.totals.ensures.tallies c.totals.ensures.bindings (c.as_slice.ensures ∙ c.in_ok-names.ensures.found mid t has)
    (c.in_ok-totals.ensures.judged after t (stores_then (g.Q.Reader.shows c.args.conn.now) (g.Q.Reader.shows c.service_names.new.conn) t c.service_names.ensures.reads.same mid has) judged) have)
    (c.are_all.ensures.judged usable t (stores_then (g.Q.Reader.shows c.args.conn.now) (g.Q.Reader.shows c.judge_each.new.conn) t (same_then (g.Q.Reader.shows c.args.conn.now) (g.Q.Reader.shows c.service_names.new.conn) (g.Q.Reader.shows c.judge_each.new.conn) c.service_names.ensures.reads.same c.judge_each.ensures.reads.same) after has))

pub returns-clause-refused : goal.returns-clause-refused
returns-clause-refused g c usable t has judged is within services =
    let after = (c.are_all.ensures.reads.same usable).0 in
    let mid = (c.judge_each.ensures.reads.same after).0 in
    c.are_all.ensures.refused usable t (stores_then (g.Q.Reader.shows c.args.conn.now) (g.Q.Reader.shows c.judge_each.new.conn) t (same_then (g.Q.Reader.shows c.args.conn.now) (g.Q.Reader.shows c.service_names.new.conn) (g.Q.Reader.shows c.judge_each.new.conn) c.service_names.ensures.reads.same c.judge_each.ensures.reads.same) after has) is
    (within, totals_there t c.as_slice.result.now c.in_ok-totals.totals c.totals.ensures.tallies c.totals.ensures.bindings (c.as_slice.ensures ∙ c.in_ok-names.ensures.found mid t has) (c.in_ok-totals.ensures.judged after t (stores_then (g.Q.Reader.shows c.args.conn.now) (g.Q.Reader.shows c.service_names.new.conn) t c.service_names.ensures.reads.same mid has) judged) services)
