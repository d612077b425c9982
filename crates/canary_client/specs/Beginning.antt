-- How a caller's journal begins, and what is asked by it.
use Rattle.std.specs.Prelude.{◌≡◌, ◌⊎◌, ℕ, ◌+◌, List, [], Some, codes}
use Rattle.canary_client_records.specs.Texts.{texts_of}
use Rattle.canary_client_journal.specs.declared.entry.SettledReply.{SettledReply}
use Rattle.canary_client_journal.specs.declared.meaning.Meaning.TheVariants.{Ahead}
use Rattle.canary_client_journal.specs.Journals.{JournalValue, begun, settles}
use Rattle.canary_client_journal.specs.Meanings.{meaning_of}
use Rattle.canary_client_journal.specs.Readings.{journal_in}
use Rattle.canary_client_journal.specs.declared.network.Heard.{Heard}
use Rattle.canary_client_journal.specs.Messages.{request_text}
use Rattle.canary_client_journal.specs.Sending.{IsSettledBy}

-- the message that asks which number of a caller comes next: it is ahead of that one
abbrev pub probe_text : List ℕ → List ℕ
probe_text caller = request_text caller 1000000000 (codes "{\"tick\":{\"service\":\"probe\"}}")

-- the desk answered to it that it has settled so many requests of the caller
abbrev pub IsSaid : (List ℕ → Heard → Type 0) → List ℕ → ℕ → Type 0
IsSaid was_told caller settled =
    (response : Heard) × was_told (probe_text caller) response
    × (meaning_of response.status response.body ≡ Ahead (settled + 1))

-- the journal stood in the file; or the file has none, and it begins with what the desk said
abbrev pub IsOpenedOrBegun : (List ℕ → Heard → Type 0) → List ℕ → List ℕ → JournalValue → Type 0
IsOpenedOrBegun was_told caller file j =
    (journal_in file ≡ Some j)
    ⊎ ((texts_of file ≡ Some [])
    × ((settled : ℕ) × (j ≡ begun caller settled) × IsSaid was_told caller settled))

-- a number was settled by a reply of the desk, which the journal has
abbrev pub IsSettledSo : (List ℕ → Heard → Type 0) → JournalValue → JournalValue → Type 0
IsSettledSo was_told pending j =
    (reply : SettledReply) × IsSettledBy was_told pending reply × (j ≡ settles pending reply)
