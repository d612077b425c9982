use Rattle.sqlite.specs.Held.{state}
use Rattle.canary_tables.proofs.Adopting.{adopted_sound}
use Rattle.canary_tables.proofs.open.adopted.Goals as goal

pub returns-in-Ok-clause-sound : goal.returns-in-Ok-clause-sound
returns-in-Ok-clause-sound g c =
    λ usable. adopted_sound c.one_reading.ensures (state g.S.Store c.args.conn) (state g.S.Store c.in-Ok.book) (c.in-Ok.ensures.adopted usable)
