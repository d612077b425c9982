-- What is sent and heard of a journal, as steps of the caller that it is of.
use Rattle.std.proofs.Common.{◌≡◌, ℕ, zero, suc, ◌+◌, List, [], ◌∷◌, ◌++◌, length, Bool, true, false, Option, Some, None, refl, sym, ap, ◌∙◌, subst, arith}
use Rattle.std.specs.Prelude.{◌==◌, not, if◌then◌else◌, ◌&&◌, map, option_map, is_some, is_none, unwrap_or, slice_get, codes}
use Rattle.std.proofs.lemmas.Bool.Decides.{nat_tests}
use Rattle.serde_json.specs.Data.{Data}
use Rattle.serde_json.specs.Read.{read}
use Rattle.serde_json.specs.Find.{as_str}
use Rattle.canary_canonical.specs.Forms.{at}
use Rattle.canary_canonical.specs.Readings.{word_in}
use Rattle.canary_plan.specs.declared.command.Command.{Command}
use Rattle.canary_release.specs.declared.reply.ReplyStatus.{ReplyStatus}
use Rattle.canary_release.specs.declared.reply.ReplyStatus.TheVariants.{Accepted, Refused, Conflict, NotFound}
use Rattle.canary_release.specs.Replies.{status_code}
use Rattle.canary_manifest.specs.Readings.{readable}
use Rattle.canary_manifest.specs.Commands.{body_reading}
use Rattle.canary_client_journal.specs.declared.entry.Asked.{Asked}
use Rattle.canary_client_journal.specs.declared.entry.SettledNumber.{SettledNumber}
use Rattle.canary_client_journal.specs.declared.entry.SettledReply.{SettledReply}
use Rattle.canary_client_journal.specs.declared.entry.EntryRefusal.{EntryRefusal}
use Rattle.canary_client_journal.specs.declared.entry.EntryRefusal.TheVariants as refusal
use Rattle.canary_client_journal.specs.declared.entry.JournalEntry.TheVariants as entry
use Rattle.canary_client_journal.specs.declared.meaning.Meaning.TheVariants as means
use Rattle.canary_client_journal.specs.Journals as journals
use Rattle.canary_client_journal.specs.Journals.{JournalValue, number_of, refusal_of}
use Rattle.canary_client_journal.specs.Meanings.{ahead, meaning_by, meaning_in, meaning_of}
use Rattle.canary_client_journal.specs.Messages.{request_text}
use Rattle.canary_client_journal.specs.Sending.{body_of}
use Rattle.canary_client_laws.specs.Delivery.{settles, hears, one_of}
use Rattle.canary_client_laws.specs.Journaling.{one_if_any, bodies_of, AreAsked, IsJournalOf}
use Rattle.canary_client_laws.specs.Settling.{Sends, Settles}
use Rattle.canary_client_laws.proofs.Journaled.{length_heard, length_map, hears_step}

-- Sent.

-- what was asked last stands last in the script
last_commands : (asked : List Asked) (a : Asked) (script : List (List Command)) → AreAsked (asked ++ a ∷ []) script → (commands : List Command) × (slice_get script (length asked) ≡ Some commands) × (map body_reading (bodies_of a) ≡ map readable commands)
last_commands [] a [] h = absurd h
last_commands [] a (commands ∷ script) h = (commands, refl, h.0)
last_commands (x ∷ asked) a [] h = absurd h
last_commands (x ∷ asked) a (commands ∷ script) h = last_commands asked a script h.1

-- a body among bodies, as the command of its place
command_at : (bodies : List (List ℕ)) (commands : List Command) (i : ℕ) (text : List ℕ) → map body_reading bodies ≡ map readable commands → slice_get bodies i ≡ Some text → (command : Command) × (slice_get commands i ≡ Some command) × (body_reading text ≡ readable command)
command_at [] commands i text e at = let none : ⊥ = cc at in absurd none
command_at (b ∷ bodies) [] i text e at = let none : ⊥ = cc e in absurd none
command_at (b ∷ bodies) (c ∷ commands) zero text e at =
    let head : body_reading b ≡ readable c = cc e in
    let same : b ≡ text = cc at in
    (c, refl, ap body_reading (sym same) ∙ head)
command_at (b ∷ bodies) (c ∷ commands) (suc i) text e at =
    let rest : map body_reading bodies ≡ map readable commands = cc e in
    command_at bodies commands i text rest at

place_in : (a : Asked) (instead : Option (List ℕ)) (is_late : Bool) → a.instead ≡ instead → (i : ℕ) × (slice_get (bodies_of a) i ≡ Some (body_of a is_late))
place_in a instead true is = (zero, refl)
place_in a None false is =
    (zero, ap (λ o. Some (unwrap_or o a.wish.body)) (sym is))
place_in a (Some text) false is =
    (suc zero, ap (λ o. slice_get (a.wish.body ∷ one_if_any o) (suc zero)) is ∙ ap (λ o. Some (unwrap_or o a.wish.body)) (sym is))

pub sends_step : Sends
sends_step w j a is_late h is =
    let asked = subst (λ p. AreAsked (map (λ (k : SettledNumber). k.asked) j.kept ++ one_if_any p) w.script) is h.asked in
    let last = last_commands (map (λ (k : SettledNumber). k.asked) j.kept) a w.script asked in
    let received = length_heard j.kept w.received h.received in
    let own = length_map j.kept in
    let place : length (map (λ (k : SettledNumber). k.asked) j.kept) ≡ length w.received = own ∙ received in
    let body = place_in a a.instead is_late refl in
    let found = command_at (bodies_of a) last.0 body.0 (body_of a is_late) last.2 body.1 in
    let number : number_of j ≡ j.before + length w.received + 1 = ap (λ n. j.before + n + 1) received in
    record {
      which = body.0;
      command = found.0;
      pending = ap (λ n. one_of (slice_get w.script n) body.0) (sym place) ∙ ap (λ o. one_of o body.0) last.1 ∙ found.1;
      read = found.2;
      bytes = ap (λ n. request_text j.caller n (body_of a is_late)) number;
    }

-- Heard.

ahead_settles_not : (next : Option ℕ) → ahead next ≡ means.Settled → ⊥
ahead_settles_not None e = cc e
ahead_settles_not (Some n) e = cc e

conflict_settles_not : (reused is_ahead : Bool) (next : Option ℕ) → (if reused then means.Reused else (if is_ahead then ahead next else means.Foreign)) ≡ means.Settled → ⊥
conflict_settles_not true is_ahead next e = cc e
conflict_settles_not false true next e = ahead_settles_not next e
conflict_settles_not false false next e = cc e

by_conflict : (code : Option (List ℕ)) (next : Option ℕ) → meaning_by 409 code next ≡ means.Settled → ⊥
by_conflict None next e = cc e
by_conflict (Some code) next e = conflict_settles_not _ _ next e

in_conflict : (d : Option Data) → meaning_in 409 d ≡ means.Settled → ⊥
in_conflict None e = cc e
in_conflict (Some d) e =
    by_conflict (at (codes "code") as_str d) (at (codes "expected") word_in d) e

not_found_settles_not : (no_route : Bool) → (if no_route then means.Unread else means.Foreign) ≡ means.Settled → ⊥
not_found_settles_not true e = cc e
not_found_settles_not false e = cc e

by_not_found : (code : Option (List ℕ)) (next : Option ℕ) → meaning_by 404 code next ≡ means.Settled → ⊥
by_not_found None next e = cc e
by_not_found (Some code) next e = not_found_settles_not _ e

in_not_found : (d : Option Data) → meaning_in 404 d ≡ means.Settled → ⊥
in_not_found None e = cc e
in_not_found (Some d) e =
    by_not_found (at (codes "code") as_str d) (at (codes "expected") word_in d) e

settles_status : (status : ReplyStatus) (body : List ℕ) → meaning_of (status_code status) body ≡ means.Settled → settles status ≡ true
settles_status Accepted body e = refl
settles_status Refused body e = refl
settles_status Conflict body e = absurd (in_conflict (read body) e)
settles_status NotFound body e = absurd (in_not_found (read body) e)

own_number : (n : ℕ) → not (n == n) ≡ false
own_number n = grind (arith, nat_tests)

not_none : (o : Option (List ℕ)) → is_some o ≡ true → is_none o ≡ false
not_none None e = let none : ⊥ = cc e in absurd none
not_none (Some x) e = refl

late_test : (is_late : Bool) (a : Asked) → (is_late ≡ true → is_some a.instead ≡ true) → (is_late && is_none a.instead) ≡ false
late_test false a h = refl
late_test true a h = not_none a.instead (h refl)

-- no test of these refuses it
stands : (b c d : Bool) (x y z : EntryRefusal) → b ≡ false → c ≡ false → d ≡ false → (if b then Some x else (if c then Some y else (if d then Some z else None))) ≡ None
stands b c d x y z e f g =
    ap (λ t. if t then Some x else (if c then Some y else (if d then Some z else None))) e
    ∙ ap (λ t. if t then Some y else (if d then Some z else None)) f
    ∙ ap (λ t. if t then Some z else None) g

may_stand : (j : JournalValue) (a : Asked) (reply : SettledReply) → j.pending ≡ Some a → (reply.is_late ≡ true → is_some a.instead ≡ true) → refusal_of j (entry.Settled (number_of j) reply) ≡ None
may_stand j a reply is late =
    stands (is_none j.pending) (not (number_of j == number_of j)) (reply.is_late && unwrap_or (option_map (λ (b : Asked). is_none b.instead) j.pending) false) refusal.NothingPending refusal.Number refusal.NotReplaced (ap is_none is) (own_number (number_of j))
    (ap (λ o. reply.is_late && unwrap_or (option_map (λ (b : Asked). is_none b.instead) o) false) is ∙ late_test reply.is_late a late)

pub settles_step : Settles
settles_step w j a reply which h is late meaning answer =
    let status : settles answer.answered.reply.status ≡ true =
    settles_status answer.answered.reply.status reply.body (ap (λ s. meaning_of s reply.body) (sym answer.status) ∙ meaning) in
    let step = hears_step w j (number_of j) a reply answer.answered h (may_stand j a reply is late) is answer.place (record {
      command = answer.command;
      status = answer.status;
      body = answer.body;
    }) status in
    subst (λ o. IsJournalOf (hears w o) (journals.settles j reply)) (sym answer.given) step.0
