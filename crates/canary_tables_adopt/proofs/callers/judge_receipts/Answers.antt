use Rattle.std.proofs.Common.{◌≡◌, Err, arith, rules}
use Rattle.canary_tables_read.specs.declared.fault.ReadFault.TheVariants.{Broken}
use Rattle.canary_tables_adopt.proofs.JudgedCallers.{no_number, numbers_more, numbers_refused}
use Rattle.canary_tables_adopt.proofs.Standing.{same_then, goes_first, goes_more}
use Rattle.canary_tables_adopt.proofs.callers.judge_receipts.Goals as goal

pub loop-before-init : goal.loop-before-init
loop-before-init g c = (goes_first g.Q.Reader.IsReady g.Q.Reader.place g.Q.Reader.below c.args.conn.now c.requires.ready, omega arith, no_number c.args.caller.now (g.Q.Reader.shows c.args.conn.now))

pub returns-in_err-judge_page-clause-reads : goal.returns-in_err-judge_page-clause-reads
returns-in_err-judge_page-clause-reads g c = record {
  mode = search rules;
  place = search rules;
  kept = search rules;
  same =
      same_then (g.Q.Reader.shows c.args.conn.now) (g.Q.Reader.shows c.loop-before.conn) (g.Q.Reader.shows c.judge_page.new.conn) c.loop-before.invariant.2.same c.judge_page.ensures.reads.same;
}

pub returns-in_err-judge_page-clause-refused : goal.returns-in_err-judge_page-clause-refused
returns-in_err-judge_page-clause-refused g c usable t has is =
    let broken : c.judge_page.result ≡ Err Broken = search rules in
    numbers_refused c.args.caller.now c.loop-before.before c.page_end-last.result c.args.settled (g.Q.Reader.shows c.args.conn.now) (g.Q.Reader.shows c.loop-before.conn) (g.Q.Reader.shows c.judge_page.new.conn) c.page_end-last.ensures.within c.loop-before.invariant.2.same c.judge_page.ensures.reads.same usable
    (λ other there. c.judge_page.ensures.refused usable other there broken) t has

pub loop-before-preserved : goal.loop-before-preserved
loop-before-preserved g c = (
  goes_more g.Q.Reader.IsReady g.Q.Reader.place g.Q.Reader.below _ _ _ c.loop-before.invariant.0 c.judge_page.ensures.reads.mode c.judge_page.ensures.reads.place c.judge_page.ensures.reads.kept,
  c.page_end-last.ensures.within,
  numbers_more c.args.caller.now c.loop-before.before c.page_end-last.result (g.Q.Reader.shows c.args.conn.now) (g.Q.Reader.shows c.loop-before.conn) (g.Q.Reader.shows c.judge_page.new.conn) c.loop-before.invariant.2 c.judge_page.ensures.reads.same
      (λ usable t has. c.in_ok-judge_page.ensures.judged usable t has),
)

pub returns-clause-judged : goal.returns-clause-judged
returns-clause-judged g c usable t has number low high = c.loop-before.invariant.2.judged usable t has number low (omega arith)
