use Rattle.std.proofs.Common.{◌≡◌, Err, arith, rules}
use Rattle.canary_tables_read.specs.declared.fault.ReadFault.TheVariants.{Broken}
use Rattle.canary_tables_adopt.proofs.AllServices.{none_so_far, service_more, service_refused, all_found}
use Rattle.canary_tables_adopt.proofs.Standing.{goes_first, goes_more}
use Rattle.canary_tables_adopt.proofs.services.judge_each.Goals as goal

pub loop-name-init : goal.loop-name-init
loop-name-init g c = (goes_first g.Q.Reader.IsReady g.Q.Reader.place g.Q.Reader.below c.args.conn.now c.requires.ready, none_so_far c.args.names.now (g.Q.Reader.shows c.args.conn.now) c.none-totals.result c.none-totals.ensures)

pub returns-in_err-more-clause-refused : goal.returns-in_err-more-clause-refused
returns-in_err-more-clause-refused g c usable t has judged is within =
    let broken : c.validate.result ≡ Err Broken = search rules in
    service_refused c.args.names.now c.loop-name.name-index c.name-item.result (g.Q.Reader.shows c.args.conn.now) (g.Q.Reader.shows c.loop-name.conn) (g.Q.Reader.shows c.validate.new.conn) (omega arith) c.name-item.is c.loop-name.invariant.1.same c.validate.ensures.reads.same usable
    (λ other there found limits. c.validate.ensures.refused usable other there found broken limits) t has judged within

pub loop-name-preserved : goal.loop-name-preserved
loop-name-preserved g c = (
  goes_more g.Q.Reader.IsReady g.Q.Reader.place g.Q.Reader.below _ _ _ c.loop-name.invariant.0 c.validate.ensures.reads.mode c.validate.ensures.reads.place c.validate.ensures.reads.kept,
  service_more c.args.names.now c.loop-name.name-index c.name-item.result (g.Q.Reader.shows c.args.conn.now) (g.Q.Reader.shows c.loop-name.conn) (g.Q.Reader.shows c.validate.new.conn) c.loop-name.totals c.in_ok-more.more c.in_ok-totals.totals (omega arith) c.name-item.is c.loop-name.invariant.1 c.validate.ensures.reads.same
      (λ usable t has judged. c.in_ok-more.ensures.judged usable t has judged) c.in_ok-totals.ensures.sum,
)

pub returns-clause-judged : goal.returns-clause-judged
returns-clause-judged g c usable t has judged = all_found c.args.names.now c.loop-name.name-index (g.Q.Reader.shows c.args.conn.now) (g.Q.Reader.shows c.loop-name.conn) c.loop-name.totals c.loop-name.invariant.1 c.loop-name-test.false usable t has judged
