use Rattle.canary_client_laws.proofs.Settled.{sends_step, settles_step}
use Rattle.canary_client_laws.proofs.laws.sending.Goals as goal

pub returns : goal.returns
returns c = record { sends = sends_step; settles = settles_step }
