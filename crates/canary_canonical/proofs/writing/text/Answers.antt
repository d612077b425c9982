use Rattle.std.proofs.Common.{ap, ◌∙◌}
use Rattle.canary_canonical.specs.Readings.{canonical_in}
use Rattle.canary_canonical.proofs.Backwards.{reads_back}
use Rattle.canary_canonical.proofs.writing.text.Goals as goal

pub returns-clause-back : goal.returns-clause-back
returns-clause-back c =
    let written = c.in_ok-written.ensures in
    ap canonical_in (c.of.ensures ∙ written.value) ∙ reads_back c.args.command.now written.kept
