use Rattle.canary_tables.proofs.Openings.{all_nothing}
use Rattle.canary_tables.proofs.open.TableBook+FileStore+ReportingDisk+File+P.open.Goals as goal

pub returns-in-Ok-None-clause-nothing : goal.returns-in-Ok-None-clause-nothing
returns-in-Ok-None-clause-nothing g c = all_nothing c.open_file.result c.open_file.ensures.found c.open_file.ensures.sound
