use Rattle.canary_tables_contents.proofs.EffectsHappen.{effects_happen, effects_stay_readable}
use Rattle.canary_tables_contents.proofs.ReadBack.{reads_back}
use Rattle.canary_tables_contents.proofs.Settled.{requests_find, requests_settle}
use Rattle.canary_tables_contents.proofs.laws.requests.Goals as goal

pub returns-clause-find : goal.returns-clause-find
returns-clause-find c = requests_find (effects_happen c.one_more.ensures c.watching.ensures) c.effects.ensures c.changes.ensures

pub returns-clause-settle : goal.returns-clause-settle
returns-clause-settle c =
    requests_settle (effects_happen c.one_more.ensures c.watching.ensures) effects_stay_readable reads_back c.effects.ensures c.changes.ensures c.in_order.ensures.keeping c.refusals.ensures
