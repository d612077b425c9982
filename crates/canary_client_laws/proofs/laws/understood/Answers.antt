use Rattle.canary_client_laws.proofs.Understood.{refusals_settle, templates_settle, services_settle, reports_settle, reused_is_reused, ahead_is_ahead}
use Rattle.canary_client_laws.proofs.laws.understood.Goals as goal

pub returns : goal.returns
returns c = record {
  refused = refusals_settle;
  template = templates_settle;
  service = services_settle;
  report = reports_settle;
  reused = reused_is_reused;
  ahead = ahead_is_ahead;
}
