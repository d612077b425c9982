-- The journal of a service, in its file.
use Rattle.canary_client_records.specs.declared.device.Device.{Ghosts}
use Rattle.canary_client_journal.specs.Keeping.{IsKept}
use Rattle.canary_client_journal.specs.declared.kept.KeptJournal.{KeptJournal}

-- the journal is kept on a device that has these words
abbrev pub IsKeptOn : {D : Type 0} → Ghosts D → KeptJournal D → Type 0
IsKeptOn g kept = IsKept g.seen g.may_leave kept
