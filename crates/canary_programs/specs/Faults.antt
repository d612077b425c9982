-- What a fault is called, and what the faults of the layers below come to.
use Rattle.std.specs.Prelude.{ℕ, List, [], ◌∷◌, ◌++◌, Result, Ok, Err, codes}
use Rattle.canary_backup.specs.declared.fault.BackupFault.{BackupFault}
use Rattle.canary_backup.specs.declared.fault.BackupFault.TheVariants as copying
use Rattle.canary_once.specs.declared.book.BookFault.{BookFault}
use Rattle.canary_once.specs.declared.book.BookFault.TheVariants as book
use Rattle.canary_files.specs.declared.import.ImportFault.{ImportFault}
use Rattle.canary_files.specs.declared.import.ImportFault.TheVariants as importing
use Rattle.canary_files.specs.declared.export.ExportFault.{ExportFault}
use Rattle.canary_files.specs.declared.export.ExportFault.TheVariants as exporting
use Rattle.canary_listen.specs.declared.listener.ListenFault.{ListenFault}
use Rattle.canary_listen.specs.declared.listener.ListenFault.TheVariants as listening
use Rattle.canary_page.specs.declared.fault.PageFault.{PageFault}
use Rattle.canary_page.specs.declared.fault.PageFault.TheVariants as page
use Rattle.canary_wire.specs.declared.serve.Ended.{Ended}
use Rattle.canary_wire.specs.declared.serve.Ended.TheVariants as ended
use Rattle.canary_wire.specs.declared.serve.ServeFault.{ServeFault}
use Rattle.canary_wire.specs.declared.serve.ServeFault.TheVariants as serving
use Rattle.canary_programs.specs.declared.fault.Fault.{Fault}
use Rattle.canary_programs.specs.declared.fault.Fault.TheVariants as fault

abbrev pub word_of : Fault → List ℕ
word_of fault.Memory = codes "memory"
word_of fault.Storage = codes "storage"
word_of fault.LogAlone = codes "storage"
word_of fault.Replaced = codes "storage"
word_of fault.OtherSchema = codes "other-schema"
word_of fault.BrokenRow = codes "broken-row"
word_of fault.InUse = codes "in-use"
word_of fault.Read = codes "read"
word_of fault.Write = codes "write"
word_of fault.Truncated = codes "truncated"
word_of fault.TurnsSpent = codes "turns-spent"
word_of fault.Header = codes "header"
word_of fault.RowsSpent = codes "rows-spent"
word_of fault.TooMany = codes "too-many"
word_of fault.UnknownService = codes "unknown-service"
word_of fault.InProgress = codes "in-progress"
word_of fault.BadName = codes "bad-name"
word_of fault.Listen = codes "listen"
word_of fault.Accept = codes "accept"
word_of fault.File = codes "file"

-- `canary: WORD` and a line end
abbrev pub line_of : Fault → List ℕ
line_of f = codes "canary: " ++ word_of f ++ 10 ∷ []

-- ---- the faults of the layers below, each under one name of its own

abbrev pub of_book : BookFault → Fault
of_book book.Memory = fault.Memory
of_book book.Storage = fault.Storage

abbrev pub of_backup : BackupFault → Fault
of_backup copying.Memory = fault.Memory
of_backup copying.Storage = fault.Storage
of_backup copying.InUse = fault.InUse
of_backup copying.File = fault.File

abbrev pub of_import : ImportFault → Fault
of_import importing.Read = fault.Read
of_import importing.Write = fault.Write
of_import importing.Memory = fault.Memory
of_import importing.Header = fault.Header
of_import importing.RowsSpent = fault.RowsSpent

abbrev pub of_export : ExportFault → Fault
of_export exporting.Memory = fault.Memory
of_export exporting.Storage = fault.Storage
of_export exporting.Write = fault.Write
of_export exporting.TooMany = fault.TooMany
of_export exporting.UnknownService = fault.UnknownService

abbrev pub of_listen : ListenFault → Fault
of_listen listening.Memory = fault.Memory
of_listen listening.Listen = fault.Listen
of_listen listening.Accept = fault.Accept
of_listen listening.Lost = fault.Replaced

abbrev pub of_page : PageFault → Fault
of_page page.Memory = fault.Memory
of_page page.Storage = fault.Storage
of_page page.Write = fault.Write

-- whether a stream that was served so was served to its end, or the fault
abbrev pub done_of : Result Ended ServeFault → Result (Unit {0}) Fault
done_of (Ok ended.EndOfInput) = Ok _
done_of (Ok ended.Closed) = Ok _
done_of (Ok ended.Truncated) = Err fault.Truncated
done_of (Ok ended.TurnsSpent) = Err fault.TurnsSpent
done_of (Err serving.Read) = Err fault.Read
done_of (Err serving.Write) = Err fault.Write
done_of (Err serving.Memory) = Err fault.Memory
