-- The line of an entry is read as the entry.
use Rattle.std.proofs.Common.{◌≡◌, ℕ, List, [], ◌∷◌, Bool, true, false, Option, Some, None, IsTrue, refl, sym, ap, ◌∙◌, ◌≤◌, subst, arith}
use Rattle.std.specs.Prelude.{codes, nat_le, ◌&&◌, if◌then◌else◌, option_map, option_and_then}
use Rattle.std.proofs.lemmas.Bool.{and_parts}
use Rattle.std.proofs.lemmas.Slice.Eq.{bytes_eq-Decides}
use Rattle.serde_json.specs.Data.{Data, string, depth}
use Rattle.serde_json.specs.Find.{as_str}
use Rattle.serde_json.specs.Read.{read, max_depth}
use Rattle.serde_json.specs.Written.{has_float, compact_text}
use Rattle.canary_base.specs.Names.{is_name}
use Rattle.canary_canonical.specs.Forms.{◌⊛◌, at, by_key, name_in, number_up_to, null_or}
use Rattle.canary_canonical.specs.Texts.{whole_data, data_or_null, only}
use Rattle.canary_canonical.specs.Readings.{word_in}
use Rattle.canary_client_journal.specs.declared.entry.Wish.{Wish}
use Rattle.canary_client_journal.specs.declared.entry.SettledReply.{SettledReply}
use Rattle.canary_client_journal.specs.declared.entry.JournalEntry.{JournalEntry}
use Rattle.canary_client_journal.specs.declared.entry.JournalEntry.TheVariants as entry
use Rattle.canary_client_journal.specs.Lines.{begun_data, asked_data, instead_data, settled_data, entry_data, line_of, wish_with, wish_in, reply_with, reply_in, begun_with, asked_with, instead_with, settled_with, begun_in, asked_in, instead_in, settled_in, entry_of_kind, spelt_in, if_line_of, entry_in, is_word, keeps_limits}

-- What an entry is in JSON has no float, and is not deep.

wish_floatless : (number : ℕ) (body intent : List ℕ) (key : Option (List ℕ)) → has_float (only (codes "asked") (asked_data number (record { intent = intent; key = key; body = body }))) ≡ false
wish_floatless number body intent None = refl
wish_floatless number body intent (Some k) = refl

wish_shallow : (number : ℕ) (body intent : List ℕ) (key : Option (List ℕ)) → depth (only (codes "asked") (asked_data number (record { intent = intent; key = key; body = body }))) ≤ max_depth
wish_shallow number body intent None = omega arith
wish_shallow number body intent (Some k) = omega arith

floatless : (e : JournalEntry) → has_float (entry_data e) ≡ false
unfolding entry_data
floatless (entry.Begun caller settled) = refl
floatless (entry.Asked number wish) = wish_floatless number wish.body wish.intent wish.key
floatless (entry.Instead number body) = refl
floatless (entry.Settled number reply) = refl

shallow : (e : JournalEntry) → depth (entry_data e) ≤ max_depth
unfolding entry_data
shallow (entry.Begun caller settled) = omega arith
shallow (entry.Asked number wish) = wish_shallow number wish.body wish.intent wish.key
shallow (entry.Instead number body) = omega arith
shallow (entry.Settled number reply) = omega arith

-- It is decoded as the entry.

passed : {A : Type 0} (a : A) {test : Bool} → IsTrue test → (if test then Some a else None) ≡ Some a
passed a h = ap (λ b. if b then Some a else None) h

name_back : (s : List ℕ) → IsTrue (is_name s) → name_in (string s) ≡ Some s
name_back s h = passed s h

word_back : (n : ℕ) → IsTrue (is_word n) → word_in (whole_data n) ≡ Some n
word_back n h = passed n h

status_back : (n : ℕ) → IsTrue (nat_le n 65535) → number_up_to 65535 (whole_data n) ≡ Some n
status_back n h = passed n h

key_back : (o : Option (List ℕ)) → null_or as_str (data_or_null string o) ≡ Some o
key_back None = refl
key_back (Some s) = refl

begun_back : (caller : List ℕ) (settled : ℕ) → IsTrue (is_name caller) → IsTrue (is_word settled) → begun_in (begun_data caller settled) ≡ Some (entry.Begun caller settled)
begun_back caller settled h k =
    λ i. Some begun_with ⊛ name_back caller h i ⊛ word_back settled k i

asked_back : (number : ℕ) (wish : Wish) → IsTrue (is_word number) → asked_in (asked_data number wish) ≡ Some (entry.Asked number wish)
asked_back number wish h =
    λ i. Some asked_with ⊛ word_back number h i ⊛ (Some wish_with ⊛ Some wish.body ⊛ Some wish.intent ⊛ key_back wish.key i)

instead_back : (number : ℕ) (body : List ℕ) → IsTrue (is_word number) → instead_in (instead_data number body) ≡ Some (entry.Instead number body)
instead_back number body h = λ i. Some instead_with ⊛ word_back number h i ⊛ Some body

settled_back : (number : ℕ) (reply : SettledReply) → IsTrue (is_word number) → IsTrue (nat_le reply.status 65535) → settled_in (settled_data number reply) ≡ Some (entry.Settled number reply)
settled_back number reply h k =
    λ i. Some settled_with ⊛ word_back number h i ⊛ (Some reply_with ⊛ Some reply.body ⊛ Some reply.is_late ⊛ status_back reply.status k i)

entry_back : (e : JournalEntry) → IsTrue (keeps_limits e) → by_key entry_of_kind (entry_data e) ≡ Some e
unfolding entry_data entry_of_kind
entry_back (entry.Begun caller settled) h =
    let parts = and_parts (is_name caller) (is_word settled) h in begun_back caller settled parts.0 parts.1
entry_back (entry.Asked number wish) h = asked_back number wish h
entry_back (entry.Instead number body) h = instead_back number body h
entry_back (entry.Settled number reply) h =
    let parts = and_parts (is_word number) (nat_le reply.status 65535) h in settled_back number reply parts.0 parts.1

-- And so its line is.

pub line_read : (text : List ℕ) (e : JournalEntry) → IsTrue (keeps_limits e) → read text ≡ Some (entry_data e) → text ≡ line_of e → entry_in text ≡ Some e
unfolding entry_in
line_read text e h is same =
    ap (λ o. option_and_then (if_line_of text) (option_and_then (by_key entry_of_kind) o)) is
    ∙ ap (option_and_then (if_line_of text)) (entry_back e h)
    ∙ passed e ((bytes_eq-Decides (line_of e) text).1 (sym same))

pub written_text : (text : List ℕ) (d : Data) (e : JournalEntry) → d ≡ entry_data e → (has_float d ≡ false → text ≡ compact_text d) → text ≡ line_of e
written_text text d e same h = h (ap has_float same ∙ floatless e) ∙ ap compact_text same

pub written_read : (text : List ℕ) (d : Data) (e : JournalEntry) → d ≡ entry_data e → (depth d ≤ max_depth → read text ≡ Some d) → read text ≡ Some (entry_data e)
written_read text d e same h = h (subst (λ x. depth x ≤ max_depth) (sym same) (shallow e)) ∙ ap Some same
