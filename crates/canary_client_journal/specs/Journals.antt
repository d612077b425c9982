-- The journal of a caller as a value, and which entry may stand next in it. One number is pending
-- at most; each has the next number of its caller; a key stands for one wish.
use Rattle.std.specs.Prelude.{ℕ, ◌+◌, ◌==◌, nat_lt, List, [], ◌∷◌, ◌++◌, length, slice_get, Bool, true, false, not, ◌&&◌, if◌then◌else◌, Option, Some, None, is_some, is_none, option_map, unwrap_or, position}
use Rattle.std.specs.List.{list_any}
use Rattle.std.specs.Str.{bytes_eq}
use Rattle.canary_client_journal.specs.declared.entry.Wish.{Wish}
use Rattle.canary_client_journal.specs.declared.entry.Asked.{Asked}
use Rattle.canary_client_journal.specs.declared.entry.SettledReply.{SettledReply}
use Rattle.canary_client_journal.specs.declared.entry.SettledNumber.{SettledNumber}
use Rattle.canary_client_journal.specs.declared.entry.JournalEntry.{JournalEntry}
use Rattle.canary_client_journal.specs.declared.entry.JournalEntry.TheVariants as entry
use Rattle.canary_client_journal.specs.declared.entry.EntryRefusal.{EntryRefusal}
use Rattle.canary_client_journal.specs.declared.entry.EntryRefusal.TheVariants as refusal
use Rattle.canary_client_journal.specs.declared.entry.WishPlace.{WishPlace}
use Rattle.canary_client_journal.specs.declared.entry.WishPlace.TheVariants as place

pub record JournalValue : Type 0 where
  pub caller : List ℕ
  -- how many requests of the caller the desk had settled as the journal began
  pub before : ℕ
  -- what was asked and settled since, in order
  pub kept : List SettledNumber
  -- what was asked under the next number, and is not settled as far as the caller heard
  pub pending : Option Asked

abbrev pub begun : List ℕ → ℕ → JournalValue
begun caller before =
    record { caller = caller; before = before; kept = []; pending = None }

-- the number that is pending, or the next one
abbrev pub number_of : JournalValue → ℕ
number_of j = j.before + length j.kept + 1

-- Keys.

-- the wish has this key
abbrev pub has_key : List ℕ → Wish → Bool
has_key key wish = unwrap_or (option_map (λ own. bytes_eq own key) wish.key) false

abbrev pub is_kept_under : List ℕ → SettledNumber → Bool
is_kept_under key k = has_key key k.asked.wish

abbrev pub is_used : List SettledNumber → Option (List ℕ) → Bool
is_used kept None = false
is_used kept (Some key) = list_any (is_kept_under key) kept

-- What may stand next.

abbrev pub asked_refusal : JournalValue → ℕ → Wish → Option EntryRefusal
asked_refusal j number wish =
    if is_some j.pending then Some refusal.Pending
    else (if not (number == number_of j) then Some refusal.Number
    else (if nat_lt 1000000000 number then Some refusal.Spent
    else (if is_used j.kept wish.key then Some refusal.KeyUsed else None)))

-- something else is asked in the place of a wish once
abbrev pub instead_refusal : JournalValue → ℕ → Option EntryRefusal
instead_refusal j number =
    if is_none j.pending then Some refusal.NothingPending
    else (if not (number == number_of j) then Some refusal.Number
    else (if unwrap_or (option_map (λ (a : Asked). is_some a.instead) j.pending) false
    then Some refusal.Replaced else None))

-- a reply comes late only to what another body was asked in the place of
abbrev pub settled_refusal : JournalValue → ℕ → SettledReply → Option EntryRefusal
settled_refusal j number reply =
    if is_none j.pending then Some refusal.NothingPending
    else (if not (number == number_of j) then Some refusal.Number
    else (if reply.is_late
    && unwrap_or (option_map (λ (a : Asked). is_none a.instead) j.pending) false
    then Some refusal.NotReplaced else None))

-- why this entry cannot stand next
abbrev pub refusal_of : JournalValue → JournalEntry → Option EntryRefusal
refusal_of j (entry.Begun caller settled) = Some refusal.Begun
refusal_of j (entry.Asked number wish) = asked_refusal j number wish
refusal_of j (entry.Instead number body) = instead_refusal j number
refusal_of j (entry.Settled number reply) = settled_refusal j number reply

-- What it makes of the journal.

abbrev pub asks : JournalValue → Wish → JournalValue
asks j wish = record j { pending = Some (record { wish = wish; instead = None }) }

abbrev pub replaced : List ℕ → Asked → Asked
replaced body a = record a { instead = Some body }

abbrev pub asks_instead : JournalValue → List ℕ → JournalValue
asks_instead j body = record j { pending = option_map (replaced body) j.pending }

abbrev pub kept_with : List SettledNumber → Option Asked → SettledReply → List SettledNumber
kept_with kept None reply = kept
kept_with kept (Some a) reply = kept ++ record { asked = a; reply = reply } ∷ []

abbrev pub settles : JournalValue → SettledReply → JournalValue
settles j reply = record j { kept = kept_with j.kept j.pending reply; pending = None }

abbrev pub with_entry : JournalValue → JournalEntry → JournalValue
with_entry j (entry.Begun caller settled) = j
with_entry j (entry.Asked number wish) = asks j wish
with_entry j (entry.Instead number body) = asks_instead j body
with_entry j (entry.Settled number reply) = settles j reply

-- Where a wish stands.

-- the wish at this place is meant
abbrev pub settled_place : List SettledNumber → ℕ → List ℕ → WishPlace
settled_place kept i intent =
    if unwrap_or
    (option_map (λ (k : SettledNumber). bytes_eq k.asked.wish.intent intent) (slice_get kept i))
    false
    then place.Settled i else place.KeyUsed

-- without a key, a wish is the one that is pending if that has its intent and no key
abbrev pub place_without : Option Asked → List ℕ → WishPlace
place_without None intent = place.New
place_without (Some a) intent =
    if is_none a.wish.key && bytes_eq a.wish.intent intent then place.Pending else place.Behind

abbrev pub place_pending : Option Asked → List ℕ → List ℕ → WishPlace
place_pending None intent key = place.New
place_pending (Some a) intent key =
    if not (has_key key a.wish) then place.Behind
    else (if bytes_eq a.wish.intent intent then place.Pending else place.KeyUsed)

abbrev pub place_under : JournalValue → List ℕ → List ℕ → Option ℕ → WishPlace
place_under j intent key None = place_pending j.pending intent key
place_under j intent key (Some i) = settled_place j.kept i intent

-- with a key, a wish is the one that has the key
abbrev pub place_of : JournalValue → List ℕ → Option (List ℕ) → WishPlace
place_of j intent None = place_without j.pending intent
place_of j intent (Some key) =
    place_under j intent key (position (is_kept_under key) j.kept)

-- What every journal keeps.

abbrev pub pending_count : Option Asked → ℕ
pending_count None = 0
pending_count (Some a) = 1
