use Rattle.canary_shown.proofs.ShownLemmas.{none_is_a_mark, plain_is_itself}
use Rattle.canary_shown.proofs.laws.showing.Goals as goal

pub returns : goal.returns
returns c = record { no_mark = none_is_a_mark; itself = plain_is_itself }
