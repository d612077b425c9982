use Rattle.std.proofs.Common.{◌≡◌, Err, rules}
use Rattle.std.proofs.lemmas.Result.{IfOk-weaker}
use Rattle.canary_tables_read.specs.declared.fault.ReadFault.TheVariants.{Broken}
use Rattle.canary_tables_adopt.proofs.JudgedServices.{service_judged, made_there, attempt_there, no_stand, past_there, totals_there}
use Rattle.canary_tables_adopt.proofs.Standing.{stores_then, same_then}
use Rattle.canary_tables_adopt.proofs.one_service.service.judge_row.Goals as goal

pub returns-in_err-made-clause-refused : goal.returns-in_err-made-clause-refused
returns-in_err-made-clause-refused g c usable t has judged is within row_judged =
    let broken : c.made_by.result ≡ Err Broken = search rules in
    c.made_by.ensures.broken broken row_judged.made row_judged.is row_judged.named

pub returns-in_err-strategy-clause-refused : goal.returns-in_err-strategy-clause-refused
returns-in_err-strategy-clause-refused g c usable t has judged is within row_judged =
    let broken : c.strategy.result ≡ Err Broken = search rules in
    c.strategy.ensures.broken usable t has judged broken within (made_there t c.args.row.now c.in_ok-made.made c.in_ok-made.ensures.made.0 row_judged)

pub returns-in_err-bound-clause-refused : goal.returns-in_err-bound-clause-refused
returns-in_err-bound-clause-refused g c usable t has judged is within row_judged =
    let broken : c.attempt.result ≡ Err Broken = search rules in
    let mid = (c.attempt.ensures.reads.same usable).0 in
    c.attempt.ensures.broken usable t (stores_then (g.Q.Reader.shows c.args.conn.now) (g.Q.Reader.shows c.strategy.new.conn) t c.strategy.ensures.reads.same mid has) judged broken within
    (row_judged.service.bound, attempt_there t c.args.row.now c.in_ok-made.made c.in_ok-strategy.strategy c.in_ok-made.ensures.made.0 (c.in_ok-strategy.ensures.found mid t has judged).1 row_judged)

pub returns-in_err-service-clause-refused : goal.returns-in_err-service-clause-refused
returns-in_err-service-clause-refused g c usable t has judged is within row_judged =
    let broken : c.stand_by.result ≡ Err Broken = search rules in
    let mid = (c.attempt.ensures.reads.same usable).0 in
    no_stand t c.args.row.now c.in_ok-made.made c.in_ok-strategy.strategy c.in_ok-bound.bound c.in_ok-made.ensures.made.0 (c.in_ok-strategy.ensures.found mid t has judged).1
    (c.in_ok-bound.ensures.found usable t (stores_then (g.Q.Reader.shows c.args.conn.now) (g.Q.Reader.shows c.strategy.new.conn) t c.strategy.ensures.reads.same mid has)) (c.stand_by.ensures.broken broken) row_judged

pub returns-clause-judged : goal.returns-clause-judged
returns-clause-judged g c usable t has judged =
    let after = (c.judge_past.ensures.reads.same usable).0 in
    let mid = (c.attempt.ensures.reads.same after).0 in
    let attempt = c.in_ok-bound.ensures.found after t (stores_then (g.Q.Reader.shows c.args.conn.now) (g.Q.Reader.shows c.strategy.new.conn) t c.strategy.ensures.reads.same mid has) in
    IfOk-weaker c.judge_past.result _ _
    (λ totals is one. (
      service_judged t c.args.row.now c.in_ok-made.made c.in_ok-strategy.strategy c.in_ok-bound.bound c.in_ok-service.service one c.in_ok-made.ensures.made (c.in_ok-strategy.ensures.found mid t has judged) attempt c.in_ok-service.ensures.service is.0,
      totals_there t c.args.row.now c.in_ok-strategy.strategy c.in_ok-bound.bound c.in_ok-service.service totals attempt c.in_ok-service.ensures.service is.1,
    ))
    (c.judge_past.ensures.judged usable t (stores_then (g.Q.Reader.shows c.args.conn.now) (g.Q.Reader.shows c.attempt.new.conn) t (same_then (g.Q.Reader.shows c.args.conn.now) (g.Q.Reader.shows c.strategy.new.conn) (g.Q.Reader.shows c.attempt.new.conn) c.strategy.ensures.reads.same c.attempt.ensures.reads.same) after has))

pub returns-clause-refused : goal.returns-clause-refused
returns-clause-refused g c usable t has judged is within row_judged =
    let after = (c.judge_past.ensures.reads.same usable).0 in
    let mid = (c.attempt.ensures.reads.same after).0 in
    let attempt = c.in_ok-bound.ensures.found after t (stores_then (g.Q.Reader.shows c.args.conn.now) (g.Q.Reader.shows c.strategy.new.conn) t c.strategy.ensures.reads.same mid has) in
    c.judge_past.ensures.refused usable t (stores_then (g.Q.Reader.shows c.args.conn.now) (g.Q.Reader.shows c.attempt.new.conn) t (same_then (g.Q.Reader.shows c.args.conn.now) (g.Q.Reader.shows c.strategy.new.conn) (g.Q.Reader.shows c.attempt.new.conn) c.strategy.ensures.reads.same c.attempt.ensures.reads.same) after has) judged is within
    (past_there t c.args.row.now c.in_ok-made.made c.in_ok-strategy.strategy c.in_ok-bound.bound c.in_ok-service.service c.in_ok-made.ensures.made.0 (c.in_ok-strategy.ensures.found mid t has judged).1 attempt c.in_ok-service.ensures.service row_judged)
