-- The journal of a file, line by line.
use Rattle.std.specs.Prelude.{ℕ, nat_le, List, [], ◌∷◌, if◌then◌else◌, Option, Some, None, is_none, option_and_then}
use Rattle.canary_client_journal.specs.declared.entry.JournalEntry.{JournalEntry}
use Rattle.canary_client_journal.specs.declared.entry.JournalEntry.TheVariants as entry
use Rattle.canary_client_journal.specs.Journals.{JournalValue, begun, refusal_of, with_entry}
use Rattle.canary_client_journal.specs.Lines.{entry_in}
use Rattle.canary_client_records.specs.Texts.{texts_of}

abbrev pub if_next : JournalValue → JournalEntry → Option JournalValue
if_next j e = if is_none (refusal_of j e) then Some (with_entry j e) else None

-- each line is an entry that may stand next
abbrev pub with_line : JournalValue → List ℕ → Option JournalValue
with_line j text = option_and_then (if_next j) (entry_in text)

abbrev pub goes_on : JournalValue → List (List ℕ) → Option JournalValue
goes_on j [] = Some j
goes_on j (text ∷ texts) = option_and_then (λ k. goes_on k texts) (with_line j text)

abbrev pub begun_by : JournalEntry → Option JournalValue
begun_by (entry.Begun caller settled) =
    if nat_le settled 1000000000 then Some (begun caller settled) else None
begun_by (entry.Asked number wish) = None
begun_by (entry.Instead number body) = None
begun_by (entry.Settled number reply) = None

-- the first line begins the journal
abbrev pub journal_of : List (List ℕ) → Option JournalValue
journal_of [] = None
journal_of (text ∷ texts) =
    option_and_then (λ j. goes_on j texts) (option_and_then begun_by (entry_in text))

-- the journal of a file's bytes
abbrev pub journal_in : List ℕ → Option JournalValue
journal_in bytes = option_and_then journal_of (texts_of bytes)
