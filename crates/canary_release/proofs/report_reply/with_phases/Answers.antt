use Rattle.std.specs.Prelude.{string_bytes}
use Rattle.canary_condition.specs.declared.outcome.Phase.TheVariants.{Pending}
use Rattle.canary_release.proofs.PhaseLists.{words_more}
use Rattle.canary_release.proofs.report_reply.with_phases.Goals as goal

pub loop-i-preserved : goal.loop-i-preserved
loop-i-preserved c =
    words_more (string_bytes c.args.front) c.args.phases.now c.loop-i.i Pending (string_bytes c.loop-i.text) (string_bytes c.in_ok-text-2.text) c.loop-i-test.true c.loop-i.invariant c.in_ok-text-2.ensures
