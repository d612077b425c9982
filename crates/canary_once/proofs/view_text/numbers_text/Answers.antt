use Rattle.std.proofs.Common.{◌∙◌}
use Rattle.std.specs.Prelude.{string_bytes}
use Rattle.canary_once.specs.Views.{number_text}
use Rattle.canary_once.proofs.ViewsJoined.{words_more}
use Rattle.canary_once.proofs.view_text.numbers_text.Goals as goal

pub loop-i-preserved : goal.loop-i-preserved
loop-i-preserved c =
    let x = c.index-runs-i.result in
    words_more number_text c.args.runs.now c.loop-i.i x c.as_str.result.now (string_bytes c.loop-i.text) (string_bytes c.in_ok-text-2.text) c.loop-i-test.true c.index-runs-i.is (c.as_str.ensures.value ∙ c.in_ok-number.ensures) c.loop-i.invariant c.in_ok-text-2.ensures
