-- An entry as a line of JSON (RFC 8259): one line for one entry.
use Rattle.std.specs.Prelude.{ℕ, nat_le, ◌&&◌, List, Bool, if◌then◌else◌, Option, Some, None, option_map, option_and_then, codes}
use Rattle.std.specs.Str.{bytes_eq}
use Rattle.canary_base.specs.Names.{is_name}
use Rattle.serde_json.specs.Data.{Data, string, boolean, object, member, no_members}
use Rattle.serde_json.specs.Find.{as_str, as_bool}
use Rattle.serde_json.specs.Read.{read}
use Rattle.serde_json.specs.Written.{compact_text}
use Rattle.canary_canonical.specs.Forms.{◌⊛◌, at, in_object_of, by_key, name_in, number_up_to, null_or}
use Rattle.canary_canonical.specs.Texts.{whole_data, data_or_null, only}
use Rattle.canary_canonical.specs.Readings.{word_in}
use Rattle.canary_client_journal.specs.declared.entry.Wish.{Wish}
use Rattle.canary_client_journal.specs.declared.entry.SettledReply.{SettledReply}
use Rattle.canary_client_journal.specs.declared.entry.JournalEntry.{JournalEntry}
use Rattle.canary_client_journal.specs.declared.entry.JournalEntry.TheVariants as entry

-- Writing. The members of each object stand in ascending order of the bytes of their keys.

abbrev pub begun_data : List ℕ → ℕ → Data
begun_data caller settled =
    object (member (codes "caller") (string caller)
    (member (codes "settled") (whole_data settled) no_members))

abbrev pub asked_data : ℕ → Wish → Data
asked_data number wish =
    object (member (codes "body") (string wish.body)
    (member (codes "intent") (string wish.intent)
    (member (codes "key") (data_or_null string wish.key)
    (member (codes "number") (whole_data number) no_members))))

abbrev pub instead_data : ℕ → List ℕ → Data
instead_data number body =
    object (member (codes "body") (string body)
    (member (codes "number") (whole_data number) no_members))

abbrev pub settled_data : ℕ → SettledReply → Data
settled_data number reply =
    object (member (codes "body") (string reply.body)
    (member (codes "late") (boolean reply.is_late)
    (member (codes "number") (whole_data number)
    (member (codes "status") (whole_data reply.status) no_members))))

unfoldable pub entry_data : JournalEntry → Data
entry_data (entry.Begun caller settled) = only (codes "begun") (begun_data caller settled)
entry_data (entry.Asked number wish) = only (codes "asked") (asked_data number wish)
entry_data (entry.Instead number body) = only (codes "instead") (instead_data number body)
entry_data (entry.Settled number reply) = only (codes "settled") (settled_data number reply)

-- the line of an entry
abbrev pub line_of : JournalEntry → List ℕ
line_of e = compact_text (entry_data e)

-- Reading.

abbrev pub wish_with : List ℕ → List ℕ → Option (List ℕ) → Wish
wish_with body intent key = record { intent = intent; key = key; body = body }

abbrev pub wish_in : Data → Option Wish
wish_in d = Some wish_with
    ⊛ at (codes "body") as_str d
    ⊛ at (codes "intent") as_str d
    ⊛ at (codes "key") (null_or as_str) d

abbrev pub reply_with : List ℕ → Bool → ℕ → SettledReply
reply_with body is_late status = record { status = status; body = body; is_late = is_late }

abbrev pub reply_in : Data → Option SettledReply
reply_in d = Some reply_with
    ⊛ at (codes "body") as_str d
    ⊛ at (codes "late") as_bool d
    ⊛ at (codes "status") (number_up_to 65535) d

abbrev pub begun_with : List ℕ → ℕ → JournalEntry
begun_with caller settled = entry.Begun caller settled

abbrev pub asked_with : ℕ → Wish → JournalEntry
asked_with number wish = entry.Asked number wish

abbrev pub instead_with : ℕ → List ℕ → JournalEntry
instead_with number body = entry.Instead number body

abbrev pub settled_with : ℕ → SettledReply → JournalEntry
settled_with number reply = entry.Settled number reply

abbrev pub begun_in : Data → Option JournalEntry
begun_in d =
    Some begun_with ⊛ at (codes "caller") name_in d ⊛ at (codes "settled") word_in d

abbrev pub asked_in : Data → Option JournalEntry
asked_in d = Some asked_with ⊛ at (codes "number") word_in d ⊛ wish_in d

abbrev pub instead_in : Data → Option JournalEntry
instead_in d =
    Some instead_with ⊛ at (codes "number") word_in d ⊛ at (codes "body") as_str d

abbrev pub settled_in : Data → Option JournalEntry
settled_in d = Some settled_with ⊛ at (codes "number") word_in d ⊛ reply_in d

unfoldable pub entry_of_kind : List ℕ → Data → Option JournalEntry
entry_of_kind kind d =
    if bytes_eq kind (codes "begun") then begun_in d
    else (if bytes_eq kind (codes "asked") then asked_in d
    else (if bytes_eq kind (codes "instead") then instead_in d
    else (if bytes_eq kind (codes "settled") then settled_in d
    else None)))

abbrev pub spelt_in : List ℕ → Option JournalEntry
spelt_in text = option_and_then (by_key entry_of_kind) (read text)

abbrev pub if_line_of : List ℕ → JournalEntry → Option JournalEntry
if_line_of text e = if bytes_eq (line_of e) text then Some e else None

-- the entry whose line this is, if it is one's: no other text is taken for it, as one with a space
unfoldable pub entry_in : List ℕ → Option JournalEntry
entry_in text = option_and_then (if_line_of text) (spelt_in text)

-- What the types of the program keep: a caller is a name, and each number fits its type.
abbrev pub is_word : ℕ → Bool
is_word n = nat_le n 4294967295

abbrev pub keeps_limits : JournalEntry → Bool
keeps_limits (entry.Begun caller settled) = is_name caller && is_word settled
keeps_limits (entry.Asked number wish) = is_word number
keeps_limits (entry.Instead number body) = is_word number
keeps_limits (entry.Settled number reply) = is_word number && nat_le reply.status 65535
