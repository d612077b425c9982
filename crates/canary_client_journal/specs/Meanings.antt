-- What a reply means for the request that it answers.
use Rattle.std.specs.Prelude.{ℕ, ◌==◌, ◌&&◌, ◌||◌, List, [], ◌∷◌, Bool, false, if◌then◌else◌, Option, Some, None, option_map, option_and_then, codes, unwrap_or}
use Rattle.std.specs.Str.{bytes_eq}
use Rattle.serde_json.specs.Data.{Data}
use Rattle.serde_json.specs.Find.{as_str}
use Rattle.serde_json.specs.Read.{read}
use Rattle.canary_canonical.specs.Forms.{at}
use Rattle.canary_canonical.specs.Readings.{word_in}
use Rattle.canary_client_journal.specs.declared.meaning.Meaning.{Meaning}
use Rattle.canary_client_journal.specs.declared.meaning.Meaning.TheVariants.{Settled, Unavailable, Reused, Ahead, Unread, Foreign}

-- the codes with which a desk refuses a command by its rules
abbrev pub refusal_codes : List (List ℕ)
refusal_codes =
    codes "unknown-service" ∷ codes "service-exists" ∷ codes "bad-condition"
    ∷ codes "interval-needed" ∷ codes "duplicate-metric" ∷ codes "bad-dry-run"
    ∷ codes "unknown-template" ∷ codes "endless-metric" ∷ codes "bad-strategy"
    ∷ codes "in-progress" ∷ codes "already-stable" ∷ codes "not-in-progress"
    ∷ codes "not-paused" ∷ codes "not-aborted" ∷ codes "runs-spent" ∷ codes "unknown-run"
    ∷ codes "run-closed" ∷ codes "unknown-metric" ∷ codes "repeated-metric"
    ∷ codes "metric-closed" ∷ codes "recorded" ∷ codes "out-of-turn" ∷ codes "spent"
    ∷ codes "future" ∷ codes "too-early" ∷ codes "revisions-spent" ∷ []

-- the codes with which it refuses a message that it cannot read, with the status 400
abbrev pub message_codes : List (List ℕ)
message_codes =
    codes "malformed" ∷ codes "bad-name" ∷ codes "bad-number" ∷ codes "unsupported"
    ∷ codes "unreadable" ∷ []

-- 409 `ahead` names the next number
abbrev pub ahead : Option ℕ → Meaning
ahead None = Foreign
ahead (Some expected) = Ahead expected

-- a status, codes that a desk sends with it as it answers a request, and what such a reply means
abbrev pub Row : Type 0
Row = ℕ × (List (List ℕ) × Meaning)

abbrev pub replies : Option ℕ → List Row
replies expected =
    (200, (codes "ok" ∷ [], Settled))
    ∷ (422, (refusal_codes, Settled))
    ∷ (409, (codes "reused" ∷ [], Reused))
    ∷ (409, (codes "ahead" ∷ [], ahead expected))
    ∷ (400, (message_codes, Unread))
    ∷ (404, (codes "no-route" ∷ [], Unread))
    ∷ (405, (codes "method" ∷ [], Unread))
    ∷ (411, (codes "length" ∷ [], Unread))
    ∷ (413, (codes "too-long" ∷ [], Unread))
    ∷ (503, (codes "no-memory" ∷ codes "storage" ∷ [], Unavailable))
    ∷ []

-- the code is one of these
abbrev pub is_among : List (List ℕ) → List ℕ → Bool
is_among [] code = false
is_among (own ∷ rest) code = bytes_eq code own || is_among rest code

-- by the first row that has both; a pair of no row is no desk's
abbrev pub meaning_among : List Row → ℕ → List ℕ → Meaning
meaning_among [] status code = Foreign
meaning_among (row ∷ rows) status code =
    if status == row.0 && is_among row.1.0 code then row.1.1
    else meaning_among rows status code

abbrev pub meaning_with : ℕ → List ℕ → Option ℕ → Meaning
meaning_with status code expected = meaning_among (replies expected) status code

-- a reply of the desk has a body in JSON with a code; a reply of another program, as of a proxy,
-- is foreign
abbrev pub meaning_by : ℕ → Option (List ℕ) → Option ℕ → Meaning
meaning_by status None expected = Foreign
meaning_by status (Some code) expected = meaning_with status code expected

abbrev pub meaning_in : ℕ → Option Data → Meaning
meaning_in status None = Foreign
meaning_in status (Some d) =
    meaning_by status (at (codes "code") as_str d) (at (codes "expected") word_in d)

abbrev pub meaning_of : ℕ → List ℕ → Meaning
meaning_of status body = meaning_in status (read body)
