use Rattle.std.proofs.Common.{arith}
use Rattle.sqlite.specs.Held.{state}
use Rattle.sqlite.specs.State.{HasCleanDisk}
use Rattle.canary_migrate.proofs.fill.insert.Goals as goal

pub returns-clause-wrote : goal.returns-clause-wrote
returns-clause-wrote g c clean t ready =
    let clean1 : HasCleanDisk (state g.S.Store c.insert_bindings.new.tx.conn.now) = omega (arith, c.insert_counts.ensures.writes.survives.clean, clean) in
    let clean0 : HasCleanDisk (state g.S.Store c.insert_revisions.new.tx.conn.now) = omega (arith, c.insert_bindings.ensures.writes.survives.clean, clean1) in
    let one = c.in_ok-insert_revisions.ensures.wrote clean0 t ready in
    let two = c.in_ok-insert_bindings.ensures.wrote clean1 _ one in
    c.in_ok-insert_counts.ensures.wrote clean _ two

pub returns-clause-sound : goal.returns-clause-sound
returns-clause-sound g c clean t ready was =
    let clean1 : HasCleanDisk (state g.S.Store c.insert_bindings.new.tx.conn.now) = omega (arith, c.insert_counts.ensures.writes.survives.clean, clean) in
    let clean0 : HasCleanDisk (state g.S.Store c.insert_revisions.new.tx.conn.now) = omega (arith, c.insert_bindings.ensures.writes.survives.clean, clean1) in
    let one = c.in_ok-insert_revisions.ensures.wrote clean0 t ready in
    let two = c.in_ok-insert_bindings.ensures.wrote clean1 _ one in
    c.in_ok-insert_counts.ensures.sound clean _ two (c.in_ok-insert_bindings.ensures.sound clean1 _ one (c.in_ok-insert_revisions.ensures.sound clean0 t ready was))
