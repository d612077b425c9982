use Rattle.std.proofs.Common.{subst}
use Rattle.std.specs.Prelude.{All}
use Rattle.std.proofs.lemmas.Result.{on_ok_weaker}
use Rattle.canary_programs.specs.Successions.{IsAccepted}
use Rattle.canary_programs.proofs.Again.{succeeds}
use Rattle.canary_programs.proofs.succession.settle.Goals as goal

pub returns-clause-made : goal.returns-clause-made
returns-clause-made g c h =
    let answers = c.in_ok-answers.answers.items in
    on_ok_weaker c.are_accepted.result (λ (all : All IsAccepted c.as_slice.result.now).
    succeeds c.args.requests.now answers _ _ c.in_ok-answers.ensures.count (subst (All IsAccepted) c.as_slice.ensures.value all)
    (c.in_ok-answers.ensures.answers h) (c.in_ok-answers.ensures.contents h)) c.are_accepted.ensures.ok
