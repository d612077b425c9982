use Rattle.std.specs.Prelude.{string_bytes}
use Rattle.canary_plan.specs.Lines.{history_text}
use Rattle.canary_files.proofs.HistoryLemmas.{lines_more}
use Rattle.canary_files.proofs.history.lines_text.Goals as goal

pub loop-line-preserved : goal.loop-line-preserved
loop-line-preserved c =
    lines_more (string_bytes c.loop-line.text) (string_bytes c.in_ok-text.text) (history_text c.args.lines.now) c.args.lines.now c.loop-line.line-index c.line-item.result c.loop-line-test.true c.line-item.is c.loop-line.invariant c.in_ok-text.ensures
