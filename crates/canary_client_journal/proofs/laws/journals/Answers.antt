use Rattle.canary_client_journal.proofs.Growing.{grows}
use Rattle.canary_client_journal.proofs.Keys.{keys_stand_once}
use Rattle.canary_client_journal.proofs.laws.journals.Goals as goal

pub returns : goal.returns
returns c = record { grows = grows; keys = keys_stand_once }
