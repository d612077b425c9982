use Rattle.std.proofs.lemmas.Result.{IfOk-weaker}
use Rattle.canary_client.proofs.ask.ask_kept.Goals as goal

pub returns-clause-shows : goal.returns-clause-shows
returns-clause-shows g c =
    let at = c.in_ok-settled.settled in
    let settled = c.in_ok-settled.ensures.settled in
    IfOk-weaker c.show_settled.result _ _ (λ outcome shows. (at, settled, shows.0, shows.1)) (c.show_settled.ensures settled.kept settled.there)
