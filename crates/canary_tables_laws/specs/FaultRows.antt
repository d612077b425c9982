-- What each fault becomes, one after another.
use Rattle.std.specs.Prelude.{◌≡◌}
use Rattle.sqlite.specs.declared.error.Error.TheVariants.{SqliteFailure}
use Rattle.sqlite.specs.declared.error.ErrorCode.TheVariants as code
use Rattle.canary_canonical.specs.declared.form.FormFault.TheVariants as form
use Rattle.canary_once.specs.declared.book.BookFault.TheVariants as book
use Rattle.canary_tables_contents.specs.declared.fault.RowFault.TheVariants as row
use Rattle.canary_tables_contents.specs.Reads.{fault_of as fault_of_form}
use Rattle.canary_tables_schema.specs.declared.fault.StoreFault.TheVariants as store
use Rattle.canary_tables_schema.specs.Faults.{fault_of as fault_of_sqlite}
use Rattle.canary_tables_read.specs.declared.fault.ReadFault.TheVariants as read
use Rattle.canary_tables_read.specs.Faults.{read_fault, store_fault}
use Rattle.canary_tables.specs.declared.fault.TableFault.TheVariants as table
use Rattle.canary_tables.specs.Faults.{fault_of_row, book_fault_of, fault_of_store, fault_of_read}

-- the errors of SQLite: refused memory, and six others
pub record AreSqliteFaults : Type 0 where
  pub memory : fault_of_sqlite (SqliteFailure code.OutOfMemory) ≡ store.Memory
  pub full : fault_of_sqlite (SqliteFailure code.DiskFull) ≡ store.Storage
  pub io : fault_of_sqlite (SqliteFailure code.SystemIoFailure) ≡ store.Storage
  pub corrupt : fault_of_sqlite (SqliteFailure code.DatabaseCorrupt) ≡ store.Storage
  pub closed : fault_of_sqlite (SqliteFailure code.Closed) ≡ store.Storage
  pub too_big : fault_of_sqlite (SqliteFailure code.TooBig) ≡ store.Storage
  pub busy : fault_of_sqlite (SqliteFailure code.DatabaseBusy) ≡ store.Storage

-- those of a text, of a row and of a read
pub record AreReadFaults : Type 0 where
  pub form_memory : fault_of_form form.Memory ≡ row.Memory
  pub form_unreadable : fault_of_form form.Unreadable ≡ row.Broken
  pub read_memory : read_fault store.Memory ≡ read.Memory
  pub read_storage : read_fault store.Storage ≡ read.Storage
  pub store_memory : store_fault read.Memory ≡ store.Memory
  pub store_storage : store_fault read.Storage ≡ store.Storage
  pub store_broken : store_fault read.Broken ≡ store.Storage

-- those of a book, and of tables that are not made or not adopted
pub record AreTableFaults : Type 0 where
  pub row_memory : fault_of_row row.Memory ≡ store.Memory
  pub row_broken : fault_of_row row.Broken ≡ store.Storage
  pub book_memory : book_fault_of store.Memory ≡ book.Memory
  pub book_storage : book_fault_of store.Storage ≡ book.Storage
  pub store_memory : fault_of_store store.Memory ≡ table.Memory
  pub store_storage : fault_of_store store.Storage ≡ table.Storage
  pub read_memory : fault_of_read read.Memory ≡ table.Memory
  pub read_storage : fault_of_read read.Storage ≡ table.Storage
  pub read_broken : fault_of_read read.Broken ≡ table.BrokenRow
