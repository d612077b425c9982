use Rattle.std.proofs.Common.{◌≡◌}
use Rattle.canary_argo_files.proofs.Known.{bound_is}
use Rattle.canary_argo_files.specs.Taken.{is_made_bound}
use Rattle.canary_argo_files.proofs.translated.is_bound.Goals as goal

pub returns : goal.returns
returns c =
    let said : c.in_ok-check_attempt.field-0.is_taken ≡ is_made_bound c.args.known.now c.args.manifest.now =
    bound_is c.args.known.now c.args.manifest.now c.as_bytes.result.now c.in_ok-check_attempt.field-0.is_taken c.in_ok-check_attempt.ensures.taken c.as_bytes.ensures.value in
    cc
