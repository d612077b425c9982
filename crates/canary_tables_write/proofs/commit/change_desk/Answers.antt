use Rattle.sqlite.specs.Held.{state}
use Rattle.canary_tables_write.proofs.Committing.{changes_as}
use Rattle.canary_tables_write.proofs.commit.change_desk.Goals as goal

pub returns-in-Service-clause-wrote : goal.returns-in-Service-clause-wrote
returns-in-Service-clause-wrote g c =
    changes_as c.args.command.now c.args.is_bound c.args.change.now c.in-Service.service c.parts.result.now c.in-Service.effects c.as_slice.result.now (state g.S.Store c.args.tx.now.conn.now) (state g.S.Store c.change_service.new.tx.conn.now) c.change_service.result
    c.in-Service.is c.parts.ensures.value c.as_slice.ensures c.change_service.ensures.wrote
