-- Each entry of a journal is a step of the caller that it is of.
use Rattle.std.proofs.Common.{◌≡◌, ℕ, suc, ◌+◌, List, [], ◌∷◌, ◌++◌, length, Bool, true, false, Option, Some, None, refl, sym, ap, ◌∙◌, subst, arith, append-nil, length-append}
use Rattle.std.specs.Prelude.{◌==◌, not, nat_lt, if◌then◌else◌, ◌&&◌, map, option_map, is_some, is_none, unwrap_or}
use Rattle.std.proofs.lemmas.Bool.Decides.{nat_tests}
use Rattle.canary_plan.specs.declared.command.Command.{Command}
use Rattle.canary_once.specs.declared.book.Receipt.{Receipt}
use Rattle.canary_manifest.specs.Readings.{readable}
use Rattle.canary_manifest.specs.Commands.{body_reading}
use Rattle.canary_client_journal.specs.declared.entry.Wish.{Wish}
use Rattle.canary_client_journal.specs.declared.entry.Asked.{Asked}
use Rattle.canary_client_journal.specs.declared.entry.SettledNumber.{SettledNumber}
use Rattle.canary_client_journal.specs.declared.entry.SettledReply.{SettledReply}
use Rattle.canary_client_journal.specs.declared.entry.JournalEntry.TheVariants as entry
use Rattle.canary_client_journal.specs.declared.entry.EntryRefusal.{EntryRefusal}
use Rattle.canary_client_journal.specs.declared.entry.EntryRefusal.TheVariants as refusal
use Rattle.canary_client_journal.specs.Journals.{JournalValue, number_of, is_used, with_entry, kept_with, replaced}
use Rattle.canary_client_laws.specs.Delivery.{World, asks, asks_instead, with_last, notes, hears}
use Rattle.canary_client_laws.specs.Journaling.{one_if_any, bodies_of, asked_in, AreAsked, IsHeard, AreHeard, IsJournalOf, Begins, Asks, AsksInstead, Hears}

-- Lengths.

length_asked : (asked : List Asked) (script : List (List Command)) → AreAsked asked script → length asked ≡ length script
length_asked [] [] h = refl
length_asked [] (c ∷ script) h = absurd h
length_asked (a ∷ asked) [] h = absurd h
length_asked (a ∷ asked) (c ∷ script) h = ap suc (length_asked asked script h.1)

pub length_heard : (kept : List SettledNumber) (receipts : List Receipt) → AreHeard kept receipts → length kept ≡ length receipts
length_heard [] [] h = refl
length_heard [] (r ∷ receipts) h = absurd h
length_heard (k ∷ kept) [] h = absurd h
length_heard (k ∷ kept) (r ∷ receipts) h = ap suc (length_heard kept receipts h.1)

pub length_map : (kept : List SettledNumber) → length (map (λ (k : SettledNumber). k.asked) kept) ≡ length kept
length_map [] = refl
length_map (k ∷ kept) = ap suc (length_map kept)

-- how many numbers are asked, with a journal in which so much is pending
count_with : (w : World) (j : JournalValue) (pending : Option Asked) → j.pending ≡ pending → IsJournalOf w j → length w.script ≡ length w.received + length (one_if_any pending)
count_with w j pending is h =
    let script = length_asked (asked_in j) w.script h.asked in
    let received = length_heard j.kept w.received h.received in
    let parts = length-append (map (λ (k : SettledNumber). k.asked) j.kept) (one_if_any j.pending) in
    let own = length_map j.kept in
    let same : length (one_if_any j.pending) ≡ length (one_if_any pending) = ap (λ p. length (one_if_any p)) is in
    omega (arith, script, received, parts, own, same)

equal_test : (m n : ℕ) → m ≡ n → (m == n) ≡ true
equal_test m n e = grind (arith, nat_tests)

unequal_test : (m n : ℕ) → m ≡ n + 1 → (m == n) ≡ false
unequal_test m n e = grind (arith, nat_tests)

-- What an entry that may stand next says of the journal.

asked_passes : (a b c d : Bool) (w x y z : EntryRefusal) → (if a then Some w else (if b then Some x else (if c then Some y else (if d then Some z else None)))) ≡ None → (a ≡ false) × (b ≡ false)
asked_passes true b c d w x y z e = let none : ⊥ = cc e in absurd none
asked_passes false true c d w x y z e = let none : ⊥ = cc e in absurd none
asked_passes false false true d w x y z e = let none : ⊥ = cc e in absurd none
asked_passes false false false true w x y z e = let none : ⊥ = cc e in absurd none
asked_passes false false false false w x y z e = (refl, refl)

passes : (a b c : Bool) (x y z : EntryRefusal) → (if a then Some x else (if b then Some y else (if c then Some z else None))) ≡ None → (a ≡ false) × (b ≡ false) × (c ≡ false)
passes true b c x y z e = let none : ⊥ = cc e in absurd none
passes false true c x y z e = let none : ⊥ = cc e in absurd none
passes false false true x y z e = let none : ⊥ = cc e in absurd none
passes false false false x y z e = (refl, refl, refl)

nothing : {A : Type 0} (o : Option A) → is_some o ≡ false → o ≡ None
nothing None e = refl
nothing (Some x) e = let none : ⊥ = cc e in absurd none

something : {A : Type 0} (o : Option A) → is_none o ≡ false → (x : A) × (o ≡ Some x)
something None e = let none : ⊥ = cc e in absurd none
something (Some x) e = (x, refl)

same_number : (number next : ℕ) → not (number == next) ≡ false → number ≡ next
same_number number next e = grind (arith, nat_tests)

next_is : (w : World) (j : JournalValue) (number : ℕ) → IsJournalOf w j → number ≡ number_of j → number ≡ j.before + length w.received + 1
next_is w j number h e = let received = length_heard j.kept w.received h.received in omega (arith, e, received)

-- Asked.

asked_push : (asked : List Asked) (script : List (List Command)) (a : Asked) (commands : List Command) → AreAsked asked script → map body_reading (bodies_of a) ≡ map readable commands → AreAsked (asked ++ a ∷ []) (script ++ commands ∷ [])
asked_push [] [] a commands h e = (e, tt)
asked_push [] (c ∷ script) a commands h e = absurd h
asked_push (x ∷ asked) [] a commands h e = absurd h
asked_push (x ∷ asked) (c ∷ script) a commands h e = (h.0, asked_push asked script a commands h.1 e)

asks_on : (w : World) (kept : List SettledNumber) (wish : Wish) (command : Command) → AreAsked (map (λ (k : SettledNumber). k.asked) kept ++ []) w.script → body_reading wish.body ≡ readable command
    → AreAsked (map (λ (k : SettledNumber). k.asked) kept ++ record { wish = wish; instead = None } ∷ []) (w.script ++ (command ∷ []) ∷ [])
asks_on w kept wish command h e =
    asked_push (map (λ (k : SettledNumber). k.asked) kept) w.script (record { wish = wish; instead = None }) (command ∷ [])
    (subst (λ l. AreAsked l w.script) (append-nil (map (λ (k : SettledNumber). k.asked) kept)) h)
    (ap (λ r. r ∷ []) e)

pub asks_step : Asks
asks_step w j number wish command h next read =
    let tests = asked_passes (is_some j.pending) (not (number == number_of j)) (nat_lt 1000000000 number) (is_used j.kept wish.key) refusal.Pending refusal.Number refusal.Spent refusal.KeyUsed next in
    let none = nothing j.pending tests.0 in
    let count = count_with w j None none h in
    let is_next : (length w.script == length w.received) ≡ true = equal_test (length w.script) (length w.received) (omega (arith, count)) in
    let world : asks w command ≡ record w { script = w.script ++ ((command ∷ []) ∷ []) } = ap (λ t. if t then record w { script = w.script ++ ((command ∷ []) ∷ []) } else w) is_next in
    let asked = subst (λ p. AreAsked (map (λ (k : SettledNumber). k.asked) j.kept ++ one_if_any p) w.script) none h.asked in
    let new : IsJournalOf (record w { script = w.script ++ ((command ∷ []) ∷ []) }) (with_entry j (entry.Asked number wish)) = record {
      asked = asks_on w j.kept wish command asked read;
      received = h.received;
    } in (
      subst (λ v. IsJournalOf v (with_entry j (entry.Asked number wish))) (sym world) new,
      next_is w j number h (same_number number (number_of j) tests.1),
    )

-- Asked in its place.

map_command_push : (cs : List Command) (x : Command) → map readable (cs ++ x ∷ []) ≡ map readable cs ++ readable x ∷ []
map_command_push [] x = refl
map_command_push (y ∷ cs) x = ap (λ l. readable y ∷ l) (map_command_push cs x)

last_asked : (asked : List Asked) (a : Asked) (body : List ℕ) (command : Command) (script : List (List Command)) → a.instead ≡ None → AreAsked (asked ++ a ∷ []) script → body_reading body ≡ readable command
    → AreAsked (asked ++ replaced body a ∷ []) (with_last script command)
last_asked [] a body command [] none h e = absurd h
last_asked [] a body command (commands ∷ []) none h e =
    let before : body_reading a.wish.body ∷ [] ≡ map readable commands = ap (λ o. map body_reading (a.wish.body ∷ one_if_any o)) (sym none) ∙ h.0 in
    (ap (λ l. l ++ body_reading body ∷ []) before ∙ ap (λ r. map readable commands ++ r ∷ []) e ∙ sym (map_command_push commands command), tt)
last_asked [] a body command (commands ∷ more ∷ script) none h e = absurd h.1
last_asked (x ∷ asked) a body command [] none h e = absurd h
last_asked (x ∷ []) a body command (commands ∷ []) none h e = absurd h.1
last_asked (x ∷ y ∷ asked) a body command (commands ∷ []) none h e = absurd h.1
last_asked (x ∷ asked) a body command (commands ∷ more ∷ script) none h e = (h.0, last_asked asked a body command (more ∷ script) none h.1 e)

not_replaced : (j : JournalValue) (a : Asked) → j.pending ≡ Some a → unwrap_or (option_map (λ (b : Asked). is_some b.instead) j.pending) false ≡ false → a.instead ≡ None
not_replaced j a is e = nothing a.instead (ap (λ o. unwrap_or (option_map (λ (b : Asked). is_some b.instead) o) false) (sym is) ∙ e)

pub asks_instead_step : AsksInstead
asks_instead_step w j number body command h next read =
    let tests = passes (is_none j.pending) (not (number == number_of j)) (unwrap_or (option_map (λ (a : Asked). is_some a.instead) j.pending) false) refusal.NothingPending refusal.Number refusal.Replaced next in
    let some = something j.pending tests.0 in
    let count = count_with w j (Some some.0) some.1 h in
    let is_next : (length w.script == length w.received) ≡ false = unequal_test (length w.script) (length w.received) (omega (arith, count)) in
    let world : asks_instead w command ≡ record w { script = with_last w.script command } = ap (λ t. if t then w else record w { script = with_last w.script command }) is_next in
    let asked = subst (λ p. AreAsked (map (λ (k : SettledNumber). k.asked) j.kept ++ one_if_any p) w.script) some.1 h.asked in
    let added = last_asked (map (λ (k : SettledNumber). k.asked) j.kept) some.0 body command w.script (not_replaced j some.0 some.1 tests.2) asked read in
    let new : IsJournalOf (record w { script = with_last w.script command }) (with_entry j (entry.Instead number body)) = record {
      asked = subst (λ p. AreAsked (map (λ (k : SettledNumber). k.asked) j.kept ++ one_if_any (option_map (replaced body) p)) (with_last w.script command)) (sym some.1) added;
      received = h.received;
    } in (
      subst (λ v. IsJournalOf v (with_entry j (entry.Instead number body))) (sym world) new,
      next_is w j number h (same_number number (number_of j) tests.1),
    )

-- Heard.

heard_push : (kept : List SettledNumber) (receipts : List Receipt) (a : Asked) (reply : SettledReply) (r : Receipt) → AreHeard kept receipts → IsHeard a reply r → AreHeard (kept ++ record { asked = a; reply = reply } ∷ []) (receipts ++ r ∷ [])
heard_push [] [] a reply r h e = (e, tt)
heard_push [] (x ∷ receipts) a reply r h e = absurd h
heard_push (k ∷ kept) [] a reply r h e = absurd h
heard_push (k ∷ kept) (x ∷ receipts) a reply r h e = (h.0, heard_push kept receipts a reply r h.1 e)

map_push : (kept : List SettledNumber) (a : Asked) (reply : SettledReply) → map (λ (k : SettledNumber). k.asked) (kept ++ record { asked = a; reply = reply } ∷ []) ≡ map (λ (k : SettledNumber). k.asked) kept ++ a ∷ []
map_push [] a reply = refl
map_push (k ∷ kept) a reply = ap (λ l. k.asked ∷ l) (map_push kept a reply)

pub hears_step : Hears
hears_step w j number a reply answered h next is place told settled =
    let tests = passes (is_none j.pending) (not (number == number_of j)) (reply.is_late && unwrap_or (option_map (λ (b : Asked). is_none b.instead) j.pending) false) refusal.NothingPending refusal.Number refusal.NotReplaced next in
    let here : (answered.place == length w.received) ≡ true = equal_test answered.place (length w.received) place in
    let receipt : Receipt = record { command = answered.command; reply = answered.reply } in
    let world : hears w (Some answered) ≡ record w { received = w.received ++ receipt ∷ [] } =
    ap (λ t. if t then notes w answered else w) here
    ∙ ap (λ t. if t then record w { received = w.received ++ receipt ∷ [] } else w) settled in
    let asked = subst (λ p. AreAsked (map (λ (k : SettledNumber). k.asked) j.kept ++ one_if_any p) w.script) is h.asked in
    let all : AreAsked (map (λ (k : SettledNumber). k.asked) (j.kept ++ record { asked = a; reply = reply } ∷ []) ++ []) w.script =
    subst (λ l. AreAsked l w.script) (sym (append-nil _ ∙ map_push j.kept a reply)) asked in
    let new : IsJournalOf (record w { received = w.received ++ receipt ∷ [] }) (with_entry j (entry.Settled number reply)) = record {
      asked = subst (λ p. AreAsked (map (λ (k : SettledNumber). k.asked) (kept_with j.kept p reply) ++ []) w.script) (sym is) all;
      received = subst (λ p. AreHeard (kept_with j.kept p reply) (w.received ++ receipt ∷ [])) (sym is) (heard_push j.kept w.received a reply receipt h.received told);
    } in (
      subst (λ v. IsJournalOf v (with_entry j (entry.Settled number reply))) (sym world) new,
      next_is w j number h (same_number number (number_of j) tests.1),
    )

pub begins_step : Begins
begins_step before caller settled = record { asked = tt; received = tt }
