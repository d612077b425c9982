use Rattle.canary_migrate.proofs.FirstMigrates.{first_rows_migrate, sound_rows_migrate}
use Rattle.canary_migrate.proofs.laws.first_rows.Goals as goal

pub returns-clause-rows : goal.returns-clause-rows
returns-clause-rows c = first_rows_migrate

pub returns-clause-sound : goal.returns-clause-sound
returns-clause-sound c = sound_rows_migrate c.exactly_those.ensures
