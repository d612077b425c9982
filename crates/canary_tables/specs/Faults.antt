-- What the faults of a statement and of a read come to.
use Rattle.canary_once.specs.declared.book.BookFault.{BookFault}
use Rattle.canary_once.specs.declared.book.BookFault.TheVariants as book
use Rattle.canary_tables_contents.specs.declared.fault.RowFault.{RowFault}
use Rattle.canary_tables_contents.specs.declared.fault.RowFault.TheVariants as row
use Rattle.canary_tables_schema.specs.declared.fault.StoreFault.{StoreFault}
use Rattle.canary_tables_schema.specs.declared.fault.StoreFault.TheVariants as store
use Rattle.canary_tables_read.specs.declared.fault.ReadFault.{ReadFault}
use Rattle.canary_tables_read.specs.declared.fault.ReadFault.TheVariants as read
use Rattle.canary_tables.specs.declared.fault.TableFault.{TableFault}
use Rattle.canary_tables.specs.declared.fault.TableFault.TheVariants.{Memory, Storage, BrokenRow}

-- a row that stands for no value is a fault of the store
abbrev pub fault_of_row : RowFault → StoreFault
fault_of_row row.Broken = store.Storage
fault_of_row row.Memory = store.Memory

abbrev pub book_fault_of : StoreFault → BookFault
book_fault_of store.Memory = book.Memory
book_fault_of store.Storage = book.Storage

abbrev pub fault_of_store : StoreFault → TableFault
fault_of_store store.Memory = Memory
fault_of_store store.Storage = Storage

abbrev pub fault_of_read : ReadFault → TableFault
fault_of_read read.Memory = Memory
fault_of_read read.Storage = Storage
fault_of_read read.Broken = BrokenRow
