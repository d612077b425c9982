use Rattle.std.proofs.Common.{subst}
use Rattle.canary_check.specs.Waiting.{is_request_attended}
use Rattle.canary_cli_client.specs.Checked.{IsCheckShown}
use Rattle.canary_cli_client.proofs.check.check_body.Goals as goal

pub returns : goal.returns
returns g c =
    let w = g.W.Write.contents c.args.output.now in
    let new_w = g.W.Write.contents c.show_findings.new.output in
    let attended = is_request_attended c.args.body.now in
    let shown = c.show_findings.ensures attended c.in-Ok.ensures.attended in
    subst (λ taken. IsCheckShown c.args.strict taken attended w new_w c.show_findings.result) c.in-Ok.ensures.taken shown
