use Rattle.std.proofs.Common.{subst}
use Rattle.canary_fetch.specs.declared.reply.ReplyStage.{ReplyStage}
use Rattle.canary_fetch.specs.Reading.{IsPart}
use Rattle.canary_fetch.proofs.reply.Incoming.end_body.Goals as goal

pub returns-in_default-clause-cut : goal.returns-in_default-clause-cut
returns-in_default-clause-cut c came part e reply rest r =
    c.in_default.not-UntilClose (subst (λ (x : ReplyStage). IsPart came x) c.requires part reply rest r)
