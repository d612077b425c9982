-- What the errors of SQLite come to.
use Rattle.sqlite.specs.declared.error.Error.{Error}
use Rattle.sqlite.specs.declared.error.Error.TheVariants.{SqliteFailure}
use Rattle.sqlite.specs.declared.error.ErrorCode.TheVariants.{OutOfMemory}
use Rattle.canary_tables_schema.specs.declared.fault.StoreFault.{StoreFault}
use Rattle.canary_tables_schema.specs.declared.fault.StoreFault.TheVariants.{Memory, Storage}

abbrev pub fault_of : Error → StoreFault
fault_of (SqliteFailure OutOfMemory) = Memory
fault_of error = Storage
