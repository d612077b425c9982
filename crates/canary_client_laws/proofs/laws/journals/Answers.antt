use Rattle.canary_client_laws.proofs.Journaled.{begins_step, asks_step, asks_instead_step, hears_step}
use Rattle.canary_client_laws.proofs.laws.journals.Goals as goal

pub returns : goal.returns
returns c = record { begins = begins_step; asks = asks_step; instead = asks_instead_step; hears = hears_step }
