-- What holds of every journal.
use Rattle.std.specs.Prelude.{◌≡◌, ℕ, ◌+◌, ◌≤◌, List, [], ◌∷◌, ◌++◌, Option, Some, None, count_by}
use Rattle.canary_client_journal.specs.declared.entry.Asked.{Asked}
use Rattle.canary_client_journal.specs.declared.entry.JournalEntry.{JournalEntry}
use Rattle.canary_client_journal.specs.Journals.{JournalValue, is_kept_under, has_key, refusal_of, with_entry}
use Rattle.canary_client_journal.specs.Lines.{entry_in}
use Rattle.canary_client_journal.specs.Readings.{journal_of}

-- one entry more, which may stand next, makes of a file's journal what it makes of the journal
abbrev pub Grows : Type 0
Grows =
    (texts : List (List ℕ)) (line : List ℕ) (j : JournalValue) (e : JournalEntry)
    → journal_of texts ≡ Some j → entry_in line ≡ Some e → refusal_of j e ≡ None
    → journal_of (texts ++ line ∷ []) ≡ Some (with_entry j e)

abbrev pub pending_uses : List ℕ → Option Asked → ℕ
pending_uses key None = 0
pending_uses key (Some a) = count_by (has_key key) (a.wish ∷ [])

-- how many wishes have this key
abbrev pub uses_of : JournalValue → List ℕ → ℕ
uses_of j key = count_by (is_kept_under key) j.kept + pending_uses key j.pending

-- a key stands for one wish at most
abbrev pub KeysStandOnce : Type 0
KeysStandOnce =
    (texts : List (List ℕ)) (j : JournalValue) → journal_of texts ≡ Some j
    → (key : List ℕ) → uses_of j key ≤ 1
