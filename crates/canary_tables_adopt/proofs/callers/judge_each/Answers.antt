use Rattle.std.proofs.Common.{◌≡◌, ◌+◌, arith}
use Rattle.canary_tables_contents.specs.Judged.{IsCallerJudged}
use Rattle.canary_tables_adopt.proofs.Each.{one_more}
use Rattle.canary_tables_adopt.proofs.JudgedCallers.{settled_more}
use Rattle.canary_tables_adopt.proofs.Standing.{goes_more}
use Rattle.canary_tables_adopt.proofs.callers.judge_each.Goals as goal

pub loop-caller-preserved : goal.loop-caller-preserved
loop-caller-preserved g c =
    let sum : c.in_ok-settled.settled ≡ c.loop-caller.settled + c.caller-item.result.settled = omega (arith, c.in_ok-settled.ensures.sum, c.from.ensures) in (
      goes_more g.Q.Reader.IsReady g.Q.Reader.place g.Q.Reader.below _ _ _ c.loop-caller.invariant.0 c.judge_one.ensures.reads.mode c.judge_one.ensures.reads.place c.judge_one.ensures.reads.kept,
      one_more IsCallerJudged c.args.callers.now c.loop-caller.caller-index c.caller-item.result (g.Q.Reader.shows c.args.conn.now) (g.Q.Reader.shows c.loop-caller.conn) (g.Q.Reader.shows c.judge_one.new.conn) (omega arith) c.caller-item.is c.loop-caller.invariant.1 c.judge_one.ensures.reads.same
          (λ usable t has. c.in_ok-judge_one.ensures.judged usable t has),
      settled_more c.args.callers.now c.loop-caller.caller-index c.caller-item.result c.loop-caller.settled c.in_ok-settled.settled (omega arith) c.caller-item.is c.loop-caller.invariant.2 sum,
    )
