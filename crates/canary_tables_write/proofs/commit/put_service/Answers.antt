use Rattle.std.proofs.Common.{rules}
use Rattle.sqlite.specs.Held.{state}
use Rattle.canary_tables_write.proofs.Committing.{put_there}
use Rattle.canary_tables_write.proofs.commit.put_service.Goals as goal

pub returns-else-makes_service-clause-wrote : goal.returns-else-makes_service-clause-wrote
returns-else-makes_service-clause-wrote g c =
    put_there c.args.command.now c.args.parts.now c.standing-standing.result (state g.S.Store c.args.tx.now.conn.now) (state g.S.Store c.update_service.new.tx.conn.now) c.update_service.result (search rules) c.standing-standing.ensures c.update_service.ensures.wrote
