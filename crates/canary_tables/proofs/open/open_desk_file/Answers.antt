use Rattle.canary_tables.proofs.Openings.{desk_found}
use Rattle.canary_tables.proofs.open.open_desk_file.Goals as goal

pub adopt_store-requires : goal.adopt_store-requires
adopt_store-requires g c = rw c.in-Ok-Some.field-0-is at c.in-Ok-Some.ensures.fresh

pub returns-in-Ok-Some-clause-found : goal.returns-in-Ok-Some-clause-found
returns-in-Ok-Some-clause-found g c =
    desk_found c.in-Ok-Some.store _ (rw c.in-Ok-Some.field-0-is at c.in-Ok-Some.ensures.trees) c.adopt_store.result c.adopt_store.ensures.trees c.adopt_store.ensures.sound
