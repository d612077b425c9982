use Rattle.std.proofs.Common.{subst}
use Rattle.canary_fetch.specs.declared.reply.ReplyStage.{ReplyStage}
use Rattle.canary_fetch.specs.Reading.{IsPart}
use Rattle.canary_fetch.proofs.reply.Incoming.end.Goals as goal

pub returns-in-Head-clause-cut : goal.returns-in-Head-clause-cut
returns-in-Head-clause-cut c came part e reply rest r = subst (λ (x : ReplyStage). IsPart came x) c.in-Head.is part reply rest r
