use Rattle.sqlite.specs.Held.{state}
use Rattle.canary_tables.proofs.Adopting.{all_sound}
use Rattle.canary_tables.proofs.open.adopt_store.Goals as goal

pub returns-in-Ok-Some-clause-sound : goal.returns-in-Ok-Some-clause-sound
returns-in-Ok-Some-clause-sound g c =
    all_sound c.one_reading.ensures g.S.Store (state g.S.Store c.in-Ok-Some.conn) c.adopt_connection.result c.adopt_connection.ensures.adopted
