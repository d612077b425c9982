use Rattle.std.proofs.Common.{Option, IfSome, subst}
use Rattle.std.proofs.lemmas.Result.{IfOk-weaker}
use Rattle.canary_plan.specs.declared.report.Report.{Report}
use Rattle.canary_client_journal.proofs.NetworkLemmas.{wider}
use Rattle.canary_agent.specs.Reports.{IsReportOf}
use Rattle.canary_agent.proofs.reporting.report.Goals as goal

pub returns-clause-settled : goal.returns-clause-settled
returns-clause-settled g c =
    let made : IsReportOf c.args.served.now c.args.run c.args.taken.now c.in-Some.report =
    subst (λ (made : Option Report). IfSome made (IsReportOf c.args.served.now c.args.run c.args.taken.now)) c.in-Some.is c.in_ok-report.ensures in
    IfOk-weaker c.command.result _ _ (λ done settled. (c.in-Some.report, made, settled)) c.command.ensures.settled

pub returns-clause-sends : goal.returns-clause-sends
returns-clause-sends g c =
    let made : IsReportOf c.args.served.now c.args.run c.args.taken.now c.in-Some.report =
    subst (λ (made : Option Report). IfSome made (IsReportOf c.args.served.now c.args.run c.args.taken.now)) c.in-Some.is c.in_ok-report.ensures in
    wider g.N.Network.was_sent g.N.Network.was_told g.N.Network.was_unanswered c.args.network.now c.command.new.network _ _ c.command.ensures.sends
    (λ m sent. (c.in-Some.report, made, sent))
