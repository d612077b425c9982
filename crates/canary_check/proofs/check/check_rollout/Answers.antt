use Rattle.std.proofs.Common.{◌≡◌, ◌∙◌, IfOk, subst}
use Rattle.std.specs.Prelude.{IsTrue, List, ℕ}
use Rattle.canary_check.specs.Taken.{is_reading_taken, service_body}
use Rattle.canary_check.specs.Waiting.{is_request_attended}
use Rattle.canary_manifest.specs.Commands.{body_reading}
use Rattle.canary_check.proofs.check.check_rollout.Goals as goal

pub returns-clause-taken : goal.returns-clause-taken
returns-clause-taken c =
    let same : c.as_slice.result.now ≡ service_body c.args.text.now = c.as_slice.ensures.value ∙ c.in_ok-body.ensures in
    subst (λ (body : List ℕ). IfOk c.check_service.result (λ findings. findings.is_taken ≡ is_reading_taken (body_reading body))) same c.check_service.ensures.taken

pub returns-clause-attended : goal.returns-clause-attended
returns-clause-attended c =
    let same : c.as_slice.result.now ≡ service_body c.args.text.now = c.as_slice.ensures.value ∙ c.in_ok-body.ensures in
    subst (λ (body : List ℕ). IfOk c.check_service.result (λ findings. IsTrue findings.is_quiet → IsTrue (is_request_attended body))) same c.check_service.ensures.attended
