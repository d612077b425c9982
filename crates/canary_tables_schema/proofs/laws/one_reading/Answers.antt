use Rattle.canary_tables_schema.proofs.Readings.{one_reading}
use Rattle.canary_tables_schema.proofs.laws.one_reading.Goals as goal

pub returns : goal.returns
returns c = one_reading
