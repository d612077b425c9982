use Rattle.canary_tables_adopt.proofs.PageLemmas.{taken_out}
use Rattle.canary_tables_adopt.proofs.one_service.runs.run_in.Goals as goal

pub returns-clause-found : goal.returns-clause-found
returns-clause-found g c name after last above most usable t stores given =
    c.run.ensures.found name c.args.number usable t stores (taken_out name after last c.args.number t above most c.args.page.now c.in_ok-rows.rows given.0 c.in_ok-rows.ensures, given.1)

pub returns-clause-broken : goal.returns-clause-broken
returns-clause-broken g c name after last above most usable t stores judged given =
    c.run.ensures.broken name c.args.number usable t stores judged (taken_out name after last c.args.number t above most c.args.page.now c.in_ok-rows.rows given.0 c.in_ok-rows.ensures, given.1)
