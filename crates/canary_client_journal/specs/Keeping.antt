-- A journal on a device.
use Rattle.std.specs.Prelude.{◌≡◌, ◌⊎◌, ℕ, List, [], ◌∷◌, ◌++◌, Some}
use Rattle.canary_canonical.specs.declared.form.FormFault.{FormFault}
use Rattle.canary_canonical.specs.declared.form.FormFault.TheVariants as form
use Rattle.canary_client_records.specs.declared.device.DeviceFault.{DeviceFault}
use Rattle.canary_client_records.specs.declared.device.DeviceFault.TheVariants as device
use Rattle.canary_client_records.specs.Texts.{texts_of}
use Rattle.canary_client_records.specs.Stores.{held, IsSettled}
use Rattle.canary_client_journal.specs.declared.entry.JournalEntry.{JournalEntry}
use Rattle.canary_client_journal.specs.declared.entry.EntryRefusal.{EntryRefusal}
use Rattle.canary_client_journal.specs.Journals.{JournalValue, begun, with_entry}
use Rattle.canary_client_journal.specs.Lines.{line_of, entry_in}
use Rattle.canary_client_journal.specs.Readings.{journal_of, journal_in}
use Rattle.canary_client_journal.specs.declared.kept.KeepFault.{KeepFault}
use Rattle.canary_client_journal.specs.declared.kept.KeepFault.TheVariants as keep
use Rattle.canary_client_journal.specs.declared.kept.KeptJournal.{KeptJournal}
use Rattle.canary_client_journal.specs.declared.kept.Opened.{Opened}
use Rattle.canary_client_journal.specs.declared.kept.Opened.TheVariants.{New, Begun}

abbrev pub keep_fault : DeviceFault → KeepFault
keep_fault device.Memory = keep.Memory
keep_fault device.Failed = keep.Failed
keep_fault device.Full = keep.Full

-- why texts were not read as a journal
abbrev pub unread : FormFault → KeepFault
unread form.Unreadable = keep.Broken
unread form.Memory = keep.Memory

-- when each fault is reported: only of a device that has failed, of a file with no room, and so on;
-- memory may be refused at any time
abbrev pub IsFault : (failed full broken : Type 0) → (EntryRefusal → Type 0) → KeepFault → Type 0
IsFault failed full broken refused keep.Memory = Unit {0}
IsFault failed full broken refused keep.Failed = failed
IsFault failed full broken refused keep.Full = full
IsFault failed full broken refused keep.Broken = broken
IsFault failed full broken refused (keep.Refused refusal) = refused refusal

-- the device is at rest, all of it on the disk, and its lines are the journal
pub record IsKept {D : Type 0} (seen : D → List ℕ) (may_leave : D → List ℕ → Type 0)
    (kept : KeptJournal D) : Type 0 where
  pub settled : IsSettled seen may_leave kept.store.device kept.store.gate
  pub journal : journal_of (held (seen kept.store.device)) ≡ Some kept.journal

-- what a device is opened as: nothing has begun there, or it has this journal
abbrev pub IsOpened : {D : Type 0} → (D → List ℕ) → (D → List ℕ → Type 0) → List ℕ → Opened D
    → Type 0
IsOpened seen may_leave file (New store) =
    IsSettled seen may_leave store.device store.gate
    × (held (seen store.device) ≡ []) × (texts_of file ≡ Some [])
IsOpened seen may_leave file (Begun kept) =
    IsKept seen may_leave kept × (journal_in file ≡ Some kept.journal)

abbrev pub device_of : {D : Type 0} → Opened D → D
device_of (New store) = store.device
device_of (Begun kept) = kept.store.device

-- What a crash leaves.

-- these texts, or these and the line of an entry
abbrev pub IsWithLine : List (List ℕ) → JournalEntry → List ℕ → Type 0
IsWithLine texts e file =
    (texts_of file ≡ Some texts)
    ⊎ ((entry_in (line_of e) ≡ Some e) × (texts_of file ≡ Some (texts ++ line_of e ∷ [])))

-- nothing yet, or the journal of this caller as it begins
abbrev pub IsNewOrBegun : List ℕ → ℕ → List ℕ → Type 0
IsNewOrBegun caller settled file =
    (texts_of file ≡ Some []) ⊎ (journal_in file ≡ Some (begun caller settled))

-- this journal, with one entry more or without it
abbrev pub IsWithOrWithout : JournalValue → JournalEntry → List ℕ → Type 0
IsWithOrWithout j e file = (journal_in file ≡ Some j) ⊎ (journal_in file ≡ Some (with_entry j e))
