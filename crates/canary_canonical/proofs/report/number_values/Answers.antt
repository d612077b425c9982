use Rattle.std.proofs.Common.{pos}
use Rattle.canary_canonical.specs.Texts.{signed_data}
use Rattle.canary_canonical.specs.Laws.{is_signed_word}
use Rattle.canary_canonical.proofs.Values.{kept_more, value_more}
use Rattle.canary_canonical.proofs.report.number_values.Goals as goal

pub loop-number-preserved : goal.loop-number-preserved
loop-number-preserved c = record {
  written = value_more signed_data _ _ (pos 0) _ _ _ c.loop-number-test.true c.loop-number.invariant.written c.number_value.ensures.value c.in_ok-push.ensures.ok;
  kept = kept_more is_signed_word _ _ (pos 0) c.loop-number-test.true c.number_value.ensures.kept c.loop-number.invariant.kept;
}
