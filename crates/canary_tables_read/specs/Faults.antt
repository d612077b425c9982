-- What the faults of the store, of a read and of a column come to.
use Rattle.sqlite.specs.declared.error.Error.{Error}
use Rattle.sqlite.specs.declared.error.Error.TheVariants.{SqliteFailure}
use Rattle.sqlite.specs.declared.error.ErrorCode.TheVariants.{OutOfMemory}
use Rattle.canary_tables_schema.specs.declared.fault.StoreFault.{StoreFault}
use Rattle.canary_tables_schema.specs.declared.fault.StoreFault.TheVariants as store
use Rattle.canary_tables_read.specs.declared.fault.ReadFault.{ReadFault}
use Rattle.canary_tables_read.specs.declared.fault.ReadFault.TheVariants as read

-- a read fails as the store does
abbrev pub read_fault : StoreFault → ReadFault
read_fault store.Memory = read.Memory
read_fault store.Storage = read.Storage

-- if rows are known to be a desk's, a broken row is a fault of the store
abbrev pub store_fault : ReadFault → StoreFault
store_fault read.Memory = store.Memory
store_fault fault = store.Storage

-- a column that is not read, if memory was not refused, holds what no desk writes
abbrev pub column_fault : Error → ReadFault
column_fault (SqliteFailure OutOfMemory) = read.Memory
column_fault error = read.Broken
