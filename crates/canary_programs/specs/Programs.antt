-- What the programs do with a book, a reader and a writer.
use Rattle.std.specs.Prelude.{◌≡◌, ◌≢◌, ℕ, List, Result, Ok, Err, None, IsTrue}
use Rattle.std.specs.FinMap.{get}
use Rattle.std.specs.Io.KnownBytes.{Appends}
use Rattle.canary_base.specs.Names.{is_name}
use Rattle.canary_plan.specs.declared.line.Line.{Line}
use Rattle.canary_plan.specs.Lines.{history_text}
use Rattle.canary_once.specs.Contents.{Contents}
use Rattle.canary_once.specs.Records.{history_of}
use Rattle.canary_once.specs.Messages.{DeskState}
use Rattle.canary_wire.specs.Serving.{ServesTo, ServesSome, ServesUntil}
use Rattle.canary_wire.specs.declared.serve.Ended.{Ended}
use Rattle.canary_wire.specs.declared.serve.ServeFault.{ServeFault}
use Rattle.canary_wire.specs.declared.serve.ServeFault.TheVariants as serving
use Rattle.canary_files.specs.declared.export.ExportFault.{ExportFault}
use Rattle.canary_files.specs.declared.import.ImportFault.{ImportFault}
use Rattle.canary_base.specs.Writes.{Known}
use Rattle.canary_files.specs.Importing.{ImportsTo}
use Rattle.canary_files.specs.Exporting.{Tells}
use Rattle.canary_programs.specs.declared.fault.Fault.{Fault}
use Rattle.canary_programs.specs.declared.fault.Fault.TheVariants as fault
use Rattle.canary_programs.specs.Faults.{of_import, of_export, done_of}

-- ---- names

-- a word is a name, or the fault says that it is invalid
abbrev pub IsNamed : List ℕ → Result (List ℕ) Fault → Type 0
IsNamed word (Ok name) = IsTrue (is_name word) × (name ≡ word)
IsNamed word (Err f) = (IsTrue (is_name word) → ⊥) × (f ≡ fault.BadName)

-- ---- history

-- the lines of a service were found, or there is no such service, or the book failed
abbrev pub FindsHistory : Contents → List ℕ → Result (List Line) Fault → Type 0
FindsHistory c name (Ok lines) = (get c.desk.services name ≢ None) × (lines ≡ history_of c name)
FindsHistory c name (Err fault.UnknownService) = get c.desk.services name ≡ None
FindsHistory c name (Err fault.Memory) = Unit {0}
FindsHistory c name (Err fault.Storage) = Unit {0}
FindsHistory c name (Err _) = ⊥

-- (here `w` is what the writer holds)
-- the history of a service was written whole; or nothing, since there is no such service, or the
-- book or memory failed; or the writer failed
abbrev pub TellsHistory : Contents → List ℕ → Known → Known → Result (Unit {0}) Fault → Type 0
TellsHistory c name w new_w (Ok _) =
    (get c.desk.services name ≢ None) × Appends w new_w (history_text (history_of c name))
TellsHistory c name w new_w (Err fault.UnknownService) =
    (get c.desk.services name ≡ None) × (new_w ≡ w)
TellsHistory c name w new_w (Err fault.Memory) = new_w ≡ w
TellsHistory c name w new_w (Err fault.Storage) = new_w ≡ w
TellsHistory c name w new_w (Err fault.Write) = Unit {0}
TellsHistory c name w new_w (Err _) = ⊥

-- ---- measurement files

abbrev pub imported : Result ℕ ImportFault → Result ℕ Fault
imported (Ok count) = Ok count
imported (Err f) = Err (of_import f)

-- a measurement file was imported, and this is how that ended
abbrev pub ImportsSo : Known → Known → Known → DeskState → DeskState → Result ℕ Fault → Type 0
ImportsSo file w new_w old new result =
    (done : Result ℕ ImportFault) × (result ≡ imported done)
    × (taken : ℕ) × (spare : ℕ) × ImportsTo file taken spare w new_w old new done

-- why no more was written of a service's file
abbrev pub TellsExport : Contents → List ℕ → Fault → Type 0
TellsExport c service f = (cause : ExportFault) × (f ≡ of_export cause) × Tells c service cause

-- ---- streams

-- (here `r` is what the reader has left)
-- a stream was served so
abbrev pub IsServed : Known → Known → Known → Known → DeskState → DeskState
    → Result Ended ServeFault → Type 0
IsServed r new_r w new_w old new (Ok ended) = ServesTo r new_r w new_w old new ended
IsServed r new_r w new_w old new (Err serving.Read) = ServesSome r new_r w new_w old new
IsServed r new_r w new_w old new (Err serving.Write) = ServesUntil r new_r w new_w old new
IsServed r new_r w new_w old new (Err serving.Memory) = (new_r ≡ r) × (new_w ≡ w)

-- and this says whether to its end
abbrev pub AnswersSo : Known → Known → Known → Known → DeskState → DeskState
    → Result (Unit {0}) Fault → Type 0
AnswersSo r new_r w new_w old new done =
    (served : Result Ended ServeFault) × (done ≡ done_of served)
    × IsServed r new_r w new_w old new served
