use Rattle.std.specs.Prelude.{string_bytes}
use Rattle.canary_once.specs.Views.{quoted_line}
use Rattle.canary_once.proofs.ViewsJoined.{words_more_behind}
use Rattle.canary_once.proofs.view_text.with_lines.Goals as goal

pub loop-i-preserved : goal.loop-i-preserved
loop-i-preserved c =
    words_more_behind quoted_line (string_bytes c.args.text) c.args.lines.now c.loop-i.i c.index-lines-i.result (string_bytes c.loop-i.all) (string_bytes c.in_ok-all.all) c.loop-i-test.true c.index-lines-i.is c.loop-i.invariant c.in_ok-all.ensures
