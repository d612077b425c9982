use Rattle.std.proofs.Common.{arith}
use Rattle.canary_tables_adopt.specs.Templates.{IsJudgedUnder}
use Rattle.canary_tables_adopt.proofs.Each.{all_judged, one_more}
use Rattle.canary_tables_adopt.proofs.Standing.{goes_more}
use Rattle.canary_tables_adopt.proofs.templates.judge_each.Goals as goal

pub loop-key-preserved : goal.loop-key-preserved
loop-key-preserved g c = (
  goes_more g.Q.Reader.IsReady g.Q.Reader.place g.Q.Reader.below _ _ _ c.loop-key.invariant.0 c.judge_one.ensures.reads.mode c.judge_one.ensures.reads.place c.judge_one.ensures.reads.kept,
  one_more IsJudgedUnder c.args.keys.now c.loop-key.key-index c.key-item.result (g.Q.Reader.shows c.args.conn.now) (g.Q.Reader.shows c.loop-key.conn) (g.Q.Reader.shows c.judge_one.new.conn) (omega arith) c.key-item.is c.loop-key.invariant.1 c.judge_one.ensures.reads.same
      (λ usable t has. c.in_ok-judge_one.ensures.judged usable t has),
)

pub returns-clause-judged : goal.returns-clause-judged
returns-clause-judged g c usable t has =
    all_judged IsJudgedUnder c.args.keys.now c.loop-key.key-index (g.Q.Reader.shows c.args.conn.now) (g.Q.Reader.shows c.loop-key.conn) c.loop-key.invariant.1 c.loop-key-test.false usable t has
