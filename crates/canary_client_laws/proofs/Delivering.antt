-- A caller with a journal: what holds of its world, and that each step keeps it.
use Rattle.std.proofs.Common.{◌≡◌, ℕ, zero, suc, ◌+◌, ◌-◌, ◌≤◌, List, [], ◌∷◌, ◌++◌, length, Bool, true, false, Some, refl, sym, ap, ◌∙◌, subst, arith, append-nil, append_assoc, length-append}
use Rattle.std.specs.Prelude.{◌==◌, nat_lt, cond, if◌then◌else◌, map, Option, None, slice_get}
use Rattle.std.specs.List.{AllByRecursion}
use Rattle.std.proofs.lemmas.Slice.Eq.{bytes_eq-Decides}
use Rattle.std.proofs.lemmas.Bool.Decides.{Decides-eqb}
use Rattle.canary_plan.specs.declared.command.Command.{Command}
use Rattle.canary_plan.specs.Commands.{same_command, SameWhereEqual}
use Rattle.canary_release.specs.declared.reply.Reply.{Reply}
use Rattle.canary_release.specs.Desks.{apply, machine}
use Rattle.canary_once.specs.declared.book.Receipt.{Receipt}
use Rattle.canary_once.specs.declared.event.Request.{Request}
use Rattle.canary_once.specs.declared.event.Event.{Event}
use Rattle.canary_once.specs.declared.event.Event.TheVariants as event
use Rattle.canary_once.specs.Contents.{Contents, receipts_of, count_of, receipt_at}
use Rattle.canary_once.specs.Laws.{RunsOn}
use Rattle.canary_once.specs.Answers.{is_of, is_new, next_number, news_of, bare, receipt_of, after, reused_reply, ahead_reply, repeat_reply, answer}
use Rattle.canary_client_laws.specs.Senders.{commands_of}
use Rattle.canary_client_laws.specs.Delivery.{Message, Answered, World, begun, Step, Ask, Instead, Send, Comes, Hears, Other, with_last, one_of, sends, settles, notes, hears, request_of, comes, is_own, step_applied, runs, Among, AreChosen, IsDelivered, Delivers, AsksNoOther}
use Rattle.canary_client_laws.proofs.Lists.{behind}
use Rattle.canary_client_laws.proofs.Receipts.{own, receipt_for, replies_after, receipts_after, own_commands}

-- Lists.

all_map : {A : Type 0} (P Q : A → Type 0) → ((x : A) → P x → Q x) → (xs : List A) → AllByRecursion P xs → AllByRecursion Q xs
all_map P Q f [] h = tt
all_map P Q f (x ∷ xs) h = (f x h.0, all_map P Q f xs h.1)

all_at : {A : Type 0} (P : A → Type 0) (xs : List A) (k : ℕ) (x : A) → AllByRecursion P xs → slice_get xs k ≡ Some x → P x
all_at P [] k x h e = let none : ⊥ = cc e in absurd none
all_at P (y ∷ xs) zero x h e = let same : y ≡ x = cc e in subst P same h.0
all_at P (y ∷ xs) (suc k) x h e = all_at P xs k x h.1 e

stays : {A : Type 0} (xs ys : List A) (k : ℕ) (x : A) → slice_get xs k ≡ Some x → slice_get (xs ++ ys) k ≡ Some x
stays [] ys k x e = let none : ⊥ = cc e in absurd none
stays (y ∷ xs) ys zero x e = e
stays (y ∷ xs) ys (suc k) x e = stays xs ys k x e

last_one : {A : Type 0} (xs : List A) (x : A) → slice_get (xs ++ x ∷ []) (length xs) ≡ Some x
last_one [] x = refl
last_one (y ∷ xs) x = last_one xs x

-- the element after a prefix is the first of the rest
splits : {A : Type 0} (received rest all : List A) (x : A) → received ++ rest ≡ all → slice_get all (length received) ≡ Some x → (more : List A) × ((received ++ x ∷ []) ++ more ≡ all)
splits [] [] all x e there = let none : ⊥ = cc (e, there) in absurd none
splits [] (y ∷ rest) all x e there =
    let first : slice_get (y ∷ rest) 0 ≡ Some x = ap (λ l. slice_get l 0) e ∙ there in
    let same : y ≡ x = cc first in
    (rest, ap (λ z. z ∷ rest) (sym same) ∙ e)
splits (h ∷ received) rest [] x e there = let none : ⊥ = cc e in absurd none
splits (h ∷ received) rest (a ∷ all) x e there =
    let tails : received ++ rest ≡ all = cc e in
    let heads : h ≡ a = cc e in
    let found = splits received rest all x tails there in
    (found.0, ap (λ z. z ∷ ((received ++ x ∷ []) ++ found.0)) heads ∙ ap (λ l. a ∷ l) found.1)

same_rest : {A : Type 0} (xs ys zs : List A) → xs ++ ys ≡ xs ++ zs → ys ≡ zs
same_rest [] ys zs e = e
same_rest (x ∷ xs) ys zs e = let tails : xs ++ ys ≡ xs ++ zs = cc e in same_rest xs ys zs tails

no_rest : {A : Type 0} (received rest all : List A) → received ++ rest ≡ all → length all ≤ length received → received ≡ all
no_rest [] [] all e h = e
no_rest [] (y ∷ rest) all e h = let long = ap length e in absurd (omega (arith, long, h))
no_rest (x ∷ received) rest [] e h = let none : ⊥ = cc e in absurd none
no_rest (x ∷ received) rest (a ∷ all) e h =
    let tails : received ++ rest ≡ all = cc e in
    let heads : x ≡ a = cc e in
    let ih = no_rest received rest all tails (omega (arith, h)) in
    ap (λ z. z ∷ received) heads ∙ ap (λ l. a ∷ l) ih

-- What one request does to a caller's receipts.

-- the machine's reply to it
abbrev its_reply : Contents → Request → Reply
its_reply c r = (apply c.desk r.moment r.command).reply

two : (r : Request) (x : Reply) (mine : Bool) → map receipt_for (cond mine ((bare r, x) ∷ []) []) ≡ cond mine (receipt_of r x ∷ []) []
two r x true = refl
two r x false = refl

one : (c : Contents) (r : Request) (q : List ℕ) (new : Bool)
    → map receipt_for (own q (if new then [] ++ r ∷ [] else []) (machine c.desk (map bare (if new then [] ++ r ∷ [] else []))).replies)
    ≡ cond new (cond (is_of q r) (receipt_of r (its_reply c r) ∷ []) []) []
one c r q true = two r (its_reply c r) (is_of q r)
one c r q false = refl

receipts_more : (c : Contents) (r : Request) (q : List ℕ) (new mine : Bool) → is_new c [] r ≡ new → is_of q r ≡ mine
    → receipts_of (after c (event.Request r ∷ [])) q ≡ receipts_of c q ++ cond new (cond mine (receipt_of r (its_reply c r) ∷ []) []) []
receipts_more c r q new mine n m =
    receipts_after c (event.Request r ∷ []) q
    ∙ ap (λ l. receipts_of c q ++ l) (one c r q (is_new c [] r))
    ∙ ap (λ b. receipts_of c q ++ cond b (cond (is_of q r) (receipt_of r (its_reply c r) ∷ []) []) []) n
    ∙ ap (λ b. receipts_of c q ++ cond new (cond b (receipt_of r (its_reply c r) ∷ []) []) []) m

-- one that is not its own leaves them
receipts_stay : (c : Contents) (e : Event) (q : List ℕ) → is_own q e ≡ false → receipts_of (after c (e ∷ [])) q ≡ receipts_of c q
receipts_stay c (event.Request r) q o = receipts_more c r q (is_new c [] r) false refl o ∙ either (is_new c [] r)
  where
    either : (new : Bool) → receipts_of c q ++ cond new (cond false (receipt_of r (its_reply c r) ∷ []) []) [] ≡ receipts_of c q
    either true = append-nil (receipts_of c q)
    either false = append-nil (receipts_of c q)
receipts_stay c (event.Query moment query) q o = refl

-- What holds.

-- this command was asked under this number
abbrev WasAsked : List (List Command) → ℕ → Command → Type 0
WasAsked script place command = (commands : List Command) × (slice_get script place ≡ Some commands) × Among command commands

-- if an answer says that its number is settled, the desk keeps just that
abbrev IsKept : List Receipt → Answered → Type 0
IsKept mine t = settles t.reply.status ≡ true → slice_get mine t.place ≡ Some (record { command = t.command; reply = t.reply })

record Holds (caller : List ℕ) (had : List Receipt) (w : World) : Type 0 where
  own : List Receipt
  settled : receipts_of w.contents caller ≡ had ++ own
  chosen : AreChosen own w.script
  rest : List Receipt
  received : w.received ++ rest ≡ own
  one_open : length w.script ≤ suc (length w.received)
  messages : AllByRecursion (λ (p : Message). WasAsked w.script p.place p.command) w.sent
  kept : AllByRecursion (IsKept own) w.answered

-- The journal only grows.

chosen_more : (rs : List Receipt) (script more : List (List Command)) → AreChosen rs script → AreChosen rs (script ++ more)
chosen_more [] script more h = tt
chosen_more (r ∷ rs) [] more h = absurd h
chosen_more (r ∷ rs) (b ∷ script) more h = (h.0, chosen_more rs script more h.1)

among_more : (command : Command) (commands more : List Command) → Among command commands → Among command (commands ++ more)
among_more command commands more h = (h.0, stays commands more h.0 command h.1)

chosen_instead : (rs : List Receipt) (script : List (List Command)) (command : Command) → AreChosen rs script → AreChosen rs (with_last script command)
chosen_instead [] script command h = tt
chosen_instead (r ∷ rs) [] command h = absurd h
chosen_instead (r ∷ rs) (b ∷ []) command h = (among_more r.command b (command ∷ []) h.0, h.1)
chosen_instead (r ∷ rs) (b ∷ c ∷ script) command h = (h.0, chosen_instead rs (c ∷ script) command h.1)

asked_more : (script more : List (List Command)) (place : ℕ) (command : Command) → WasAsked script place command → WasAsked (script ++ more) place command
asked_more script more place command h = (h.0, stays script more place h.0 h.1, h.2)

asked_instead : (script : List (List Command)) (other : Command) (place : ℕ) (command : Command) → WasAsked script place command → WasAsked (with_last script other) place command
asked_instead [] other place command h = h
asked_instead (b ∷ []) other zero command h =
    let same : b ≡ h.0 = cc h.1 in
    (b ++ other ∷ [], refl, among_more command b (other ∷ []) (subst (Among command) (sym same) h.2))
asked_instead (b ∷ []) other (suc place) command h = let none : ⊥ = cc h.1 in absurd none
asked_instead (b ∷ c ∷ script) other zero command h = h
asked_instead (b ∷ c ∷ script) other (suc place) command h = asked_instead (c ∷ script) other place command h

long_instead : (script : List (List Command)) (command : Command) → length (with_last script command) ≡ length script
long_instead [] command = refl
long_instead (b ∷ []) command = refl
long_instead (b ∷ c ∷ script) command = ap suc (long_instead (c ∷ script) command)

-- What the desk keeps only grows, by what was asked.

chosen_next : (rs : List Receipt) (script : List (List Command)) (r : Receipt) → AreChosen rs script → WasAsked script (length rs) r.command → AreChosen (rs ++ r ∷ []) script
chosen_next [] [] r h asked = let none : ⊥ = cc asked.1 in absurd none
chosen_next [] (b ∷ script) r h asked = let same : b ≡ asked.0 = cc asked.1 in (subst (Among r.command) (sym same) asked.2, tt)
chosen_next (x ∷ rs) [] r h asked = absurd h
chosen_next (x ∷ rs) (b ∷ script) r h asked = (h.0, chosen_next rs script r h.1 asked)

kept_more : (rs more : List Receipt) (given : List Answered) → AllByRecursion (IsKept rs) given → AllByRecursion (IsKept (rs ++ more)) given
kept_more rs more given h = all_map (IsKept rs) (IsKept (rs ++ more)) (λ t k e. stays rs more t.place _ (k e)) given h

chosen_short : (rs : List Receipt) (script : List (List Command)) → AreChosen rs script → length rs ≤ length script
chosen_short [] script h = omega arith
chosen_short (r ∷ rs) [] h = absurd h
chosen_short (r ∷ rs) (b ∷ script) h = let ih = chosen_short rs script h.1 in omega (arith, ih)

-- The caller's steps.

by_ask : (caller : List ℕ) (had : List Receipt) (w : World) (command : Command) (b : Bool) → (length w.script == length w.received) ≡ b → Holds caller had w → Holds caller had (if b then record w { script = w.script ++ ((command ∷ []) ∷ []) } else w)
by_ask caller had w command true e h =
    let same : length w.script ≡ length w.received = (Decides-eqb (length w.script) (length w.received)).0 e in
    let long = length-append w.script ((command ∷ []) ∷ []) in
    record {
      own = h.own;
      settled = h.settled;
      chosen = chosen_more h.own w.script ((command ∷ []) ∷ []) h.chosen;
      rest = h.rest;
      received = h.received;
      one_open = omega (arith, same, long);
      messages = all_map _ _ (λ (p : Message) k. asked_more w.script ((command ∷ []) ∷ []) p.place p.command k) w.sent h.messages;
      kept = h.kept;
    }
by_ask caller had w command false e h = h

by_instead : (caller : List ℕ) (had : List Receipt) (w : World) (command : Command) (b : Bool) → Holds caller had w → Holds caller had (if b then w else record w { script = with_last w.script command })
by_instead caller had w command true h = h
by_instead caller had w command false h =
    let long = long_instead w.script command in
    let most = h.one_open in
    record {
      own = h.own;
      settled = h.settled;
      chosen = chosen_instead h.own w.script command h.chosen;
      rest = h.rest;
      received = h.received;
      one_open = omega (arith, most, long);
      messages = all_map _ _ (λ (p : Message) k. asked_instead w.script command p.place p.command k) w.sent h.messages;
      kept = h.kept;
    }

by_send : (caller : List ℕ) (had : List Receipt) (w : World) (which : ℕ) (found : Option (List Command)) (one : Option Command) → slice_get w.script (length w.received) ≡ found → one_of found which ≡ one → Holds caller had w → Holds caller had (sends w one)
by_send caller had w which found None e o h = h
by_send caller had w which None (Some command) e o h = let none : ⊥ = cc o in absurd none
by_send caller had w which (Some commands) (Some command) e o h =
    record {
      own = h.own;
      settled = h.settled;
      chosen = h.chosen;
      rest = h.rest;
      received = h.received;
      one_open = h.one_open;
      messages = ((commands, e, (which, o)), h.messages);
      kept = h.kept;
    }

by_noting : (caller : List ℕ) (had : List Receipt) (w : World) (t : Answered) (b : Bool) → settles t.reply.status ≡ b → t.place ≡ length w.received → (h : Holds caller had w) → IsKept h.own t
    → Holds caller had (if b then record w { received = w.received ++ record { command = t.command; reply = t.reply } ∷ [] } else w)
by_noting caller had w t false e at h k = h
by_noting caller had w t true e at h k =
    let r : Receipt = record { command = t.command; reply = t.reply } in
    let there : slice_get h.own (length w.received) ≡ Some r = ap (slice_get h.own) (sym at) ∙ k e in
    let split = splits w.received h.rest h.own r h.received there in
    let long = length-append w.received (r ∷ []) in
    let most = h.one_open in
    record {
      own = h.own;
      settled = h.settled;
      chosen = h.chosen;
      rest = split.0;
      received = split.1;
      one_open = omega (arith, most, long);
      messages = h.messages;
      kept = h.kept;
    }

by_place : (caller : List ℕ) (had : List Receipt) (w : World) (t : Answered) (b : Bool) → (t.place == length w.received) ≡ b → (h : Holds caller had w) → IsKept h.own t → Holds caller had (if b then notes w t else w)
by_place caller had w t true e h k = by_noting caller had w t (settles t.reply.status) refl ((Decides-eqb t.place (length w.received)).0 e) h k
by_place caller had w t false e h k = h

by_hearing : (caller : List ℕ) (had : List Receipt) (w : World) (found : Option Answered) (which : ℕ) → slice_get w.answered which ≡ found → Holds caller had w → Holds caller had (hears w found)
by_hearing caller had w None which e h = h
by_hearing caller had w (Some t) which e h = by_place caller had w t (t.place == length w.received) refl h (all_at (IsKept h.own) w.answered which t h.kept e)

-- The desk's steps.

-- a repeat that is answered as settled gets what is kept under its number
repeat_kept : SameWhereEqual → (found : Option Receipt) (mine : List Receipt) (place : ℕ) (command : Command) → found ≡ slice_get mine place → settles (repeat_reply found command).status ≡ true
    → slice_get mine place ≡ Some (record { command = command; reply = repeat_reply found command })
repeat_kept same None mine place command is s = let none : ⊥ = cc s in absurd none
repeat_kept same (Some k) mine place command is s = alike (same_command k.command command) refl s
  where
    alike : (b : Bool) → same_command k.command command ≡ b → settles (if b then k.reply else reused_reply).status ≡ true → slice_get mine place ≡ Some (record { command = command; reply = (if b then k.reply else reused_reply) })
    alike true e t =
        let commands : k.command ≡ command = (same k.command command).0 e in
        sym is ∙ ap (λ x. Some (record { command = x; reply = k.reply })) commands
    alike false e t = let none : ⊥ = cc t in absurd none

by_request : SameWhereEqual → (caller : List ℕ) (had : List Receipt) (w : World) (p : Message) (moment : ℕ) (new old : Bool)
    → is_new w.contents [] (request_of caller (length had) moment p) ≡ new
    → nat_lt (length had + p.place + 1) (next_number w.contents [] caller) ≡ old
    → WasAsked w.script p.place p.command → Holds caller had w
    → (reply : Reply)
    → reply ≡ (if new then its_reply w.contents (request_of caller (length had) moment p)
    else (if old then repeat_reply (receipt_at w.contents caller (length had + p.place + 1)) p.command
    else ahead_reply (next_number w.contents [] caller)))
    → Holds caller had (record w {
      contents = after w.contents (event.Request (request_of caller (length had) moment p) ∷ []);
      came = w.came ++ event.Request (request_of caller (length had) moment p) ∷ [];
      answered = record { place = p.place; command = p.command; reply = reply } ∷ w.answered;
    })
by_request same caller had w p moment true old n o was h reply is =
    let r : Request = request_of caller (length had) moment p in
    let x : Receipt = receipt_of r (its_reply w.contents r) in
    let mine : is_of caller r ≡ true = (bytes_eq-Decides caller caller).1 refl in
    let number : length had + p.place + 1 ≡ next_number w.contents [] caller = (Decides-eqb r.number (next_number w.contents [] r.caller)).0 n in
    let count : count_of w.contents caller ≡ length had + length h.own = ap length h.settled ∙ length-append had h.own in
    let at : p.place ≡ length h.own = omega (arith, number, count) in
    let here : slice_get (h.own ++ x ∷ []) p.place ≡ Some x = ap (slice_get (h.own ++ x ∷ [])) at ∙ last_one h.own x in
    record {
      own = h.own ++ x ∷ [];
      settled = receipts_more w.contents r caller true true n mine ∙ ap (λ l. l ++ x ∷ []) h.settled ∙ append_assoc had h.own (x ∷ []);
      chosen = chosen_next h.own w.script x h.chosen (subst (λ k. WasAsked w.script k p.command) at was);
      rest = h.rest ++ x ∷ [];
      received = sym (append_assoc w.received h.rest (x ∷ [])) ∙ ap (λ l. l ++ x ∷ []) h.received;
      one_open = h.one_open;
      messages = h.messages;
      kept = ((λ _. here ∙ ap (λ y. Some (record { command = p.command; reply = y })) (sym is)), kept_more h.own (x ∷ []) w.answered h.kept);
    }
by_request same caller had w p moment false true n o was h reply is =
    let r : Request = request_of caller (length had) moment p in
    let mine : is_of caller r ≡ true = (bytes_eq-Decides caller caller).1 refl in
    let at : (length had + p.place + 1) - 1 ≡ length had + p.place = omega arith in
    let found : receipt_at w.contents caller (length had + p.place + 1) ≡ slice_get h.own p.place =
    ap (slice_get (receipts_of w.contents caller)) at ∙ ap (λ ks. slice_get ks (length had + p.place)) h.settled ∙ behind had h.own p.place in
    record {
      own = h.own;
      settled = receipts_more w.contents r caller false true n mine ∙ append-nil (receipts_of w.contents caller) ∙ h.settled;
      chosen = h.chosen;
      rest = h.rest;
      received = h.received;
      one_open = h.one_open;
      messages = h.messages;
      kept = (
        (λ s. repeat_kept same (receipt_at w.contents caller (length had + p.place + 1)) h.own p.place p.command found (ap (λ (y : Reply). settles y.status) (sym is) ∙ s)
            ∙ ap (λ y. Some (record { command = p.command; reply = y })) (sym is)),
        h.kept,
      );
    }
by_request same caller had w p moment false false n o was h reply is =
    let r : Request = request_of caller (length had) moment p in
    let mine : is_of caller r ≡ true = (bytes_eq-Decides caller caller).1 refl in
    record {
      own = h.own;
      settled = receipts_more w.contents r caller false true n mine ∙ append-nil (receipts_of w.contents caller) ∙ h.settled;
      chosen = h.chosen;
      rest = h.rest;
      received = h.received;
      one_open = h.one_open;
      messages = h.messages;
      kept = ((λ s. let off : false ≡ true = ap (λ (y : Reply). settles y.status) (sym is) ∙ s in let none : ⊥ = cc off in absurd none), h.kept);
    }

by_coming : SameWhereEqual → (caller : List ℕ) (had : List Receipt) (w : World) (found : Option Message) (which moment : ℕ) → slice_get w.sent which ≡ found → Holds caller had w → Holds caller had (comes caller (length had) w found moment)
by_coming same caller had w None which moment e h = h
by_coming same caller had w (Some p) which moment e h =
    by_request same caller had w p moment
    (is_new w.contents [] (request_of caller (length had) moment p)) (nat_lt (length had + p.place + 1) (next_number w.contents [] caller)) refl refl
    (all_at (λ (p : Message). WasAsked w.script p.place p.command) w.sent which p h.messages e) h
    (answer w.contents [] (event.Request (request_of caller (length had) moment p))) refl

by_other : (caller : List ℕ) (had : List Receipt) (w : World) (e : Event) (b : Bool) → is_own caller e ≡ b → Holds caller had w → Holds caller had (if b then w else record w { contents = after w.contents (e ∷ []); came = w.came ++ e ∷ [] })
by_other caller had w e true o h = h
by_other caller had w e false o h =
    record {
      own = h.own;
      settled = receipts_stay w.contents e caller o ∙ h.settled;
      chosen = h.chosen;
      rest = h.rest;
      received = h.received;
      one_open = h.one_open;
      messages = h.messages;
      kept = h.kept;
    }

-- What came.

-- the contents are those after all that came
abbrev IsAfter : Contents → World → Type 0
IsAfter before w = w.contents ≡ after before w.came

after_more : RunsOn → (before : Contents) (w : World) (e : Event) → IsAfter before w → after w.contents (e ∷ []) ≡ after before (w.came ++ e ∷ [])
after_more on before w e h = ap (λ c. after c (e ∷ [])) h ∙ sym (on before w.came (e ∷ [])).1

either_world : (before : Contents) (b : Bool) (v w : World) → IsAfter before v → IsAfter before w → IsAfter before (if b then v else w)
either_world before true v w x y = x
either_world before false v w x y = y

after_sending : (before : Contents) (w : World) (command : Option Command) → IsAfter before w → IsAfter before (sends w command)
after_sending before w None h = h
after_sending before w (Some command) h = h

after_hearing : (before : Contents) (w : World) (a : Option Answered) → IsAfter before w → IsAfter before (hears w a)
after_hearing before w None h = h
after_hearing before w (Some a) h =
    either_world before (a.place == length w.received) (notes w a) w
    (either_world before (settles a.reply.status) (record w { received = w.received ++ record { command = a.command; reply = a.reply } ∷ [] }) w h h) h

after_coming : RunsOn → (before : Contents) (caller : List ℕ) (settled : ℕ) (w : World) (m : Option Message) (moment : ℕ) → IsAfter before w → IsAfter before (comes caller settled w m moment)
after_coming on before caller settled w None moment h = h
after_coming on before caller settled w (Some m) moment h = after_more on before w (event.Request (request_of caller settled moment m)) h

after_each : RunsOn → (before : Contents) (caller : List ℕ) (settled : ℕ) (w : World) (s : Step) → IsAfter before w → IsAfter before (step_applied caller settled w s)
after_each on before caller settled w (Ask command) h = either_world before (length w.script == length w.received) (record w { script = w.script ++ ((command ∷ []) ∷ []) }) w h h
after_each on before caller settled w (Instead command) h = either_world before (length w.script == length w.received) w (record w { script = with_last w.script command }) h h
after_each on before caller settled w (Send which) h = after_sending before w (one_of (slice_get w.script (length w.received)) which) h
after_each on before caller settled w (Comes which moment) h = after_coming on before caller settled w (slice_get w.sent which) moment h
after_each on before caller settled w (Hears which) h = after_hearing before w (slice_get w.answered which) h
after_each on before caller settled w (Other e) h =
    either_world before (is_own caller e) w (record w { contents = after w.contents (e ∷ []); came = w.came ++ e ∷ [] }) h (after_more on before w e h)

after_all : RunsOn → (before : Contents) (caller : List ℕ) (settled : ℕ) (steps : List Step) (w : World) → IsAfter before w → IsAfter before (runs caller settled w steps)
after_all on before caller settled [] w h = h
after_all on before caller settled (s ∷ steps) w h = after_all on before caller settled steps (step_applied caller settled w s) (after_each on before caller settled w s h)

-- the receipts that are more than before have the commands of the caller's new requests
commands_acted : (caller : List ℕ) (before : Contents) (w : World) (mine : List Receipt) → IsAfter before w → receipts_of w.contents caller ≡ receipts_of before caller ++ mine
    → commands_of caller (news_of before w.came) ≡ map (λ (r : Receipt). r.command) mine
commands_acted caller before w mine h settled =
    let new : List Receipt = map receipt_for (own caller (news_of before w.came) (replies_after before w.came)) in
    let both : receipts_of before caller ++ mine ≡ receipts_of before caller ++ new = sym settled ∙ ap (λ c. receipts_of c caller) h ∙ receipts_after before w.came caller in
    sym (own_commands before w.came caller) ∙ sym (ap (map (λ (r : Receipt). r.command)) (same_rest (receipts_of before caller) mine new both))

-- All of it.

by_each : SameWhereEqual → (caller : List ℕ) (had : List Receipt) (w : World) (s : Step) → Holds caller had w → Holds caller had (step_applied caller (length had) w s)
by_each same caller had w (Ask command) h = by_ask caller had w command (length w.script == length w.received) refl h
by_each same caller had w (Instead command) h = by_instead caller had w command (length w.script == length w.received) h
by_each same caller had w (Send which) h = by_send caller had w which (slice_get w.script (length w.received)) (one_of (slice_get w.script (length w.received)) which) refl refl h
by_each same caller had w (Comes which moment) h = by_coming same caller had w (slice_get w.sent which) which moment refl h
by_each same caller had w (Hears which) h = by_hearing caller had w (slice_get w.answered which) which refl h
by_each same caller had w (Other e) h = by_other caller had w e (is_own caller e) refl h

by_all : SameWhereEqual → (caller : List ℕ) (had : List Receipt) (steps : List Step) (w : World) → Holds caller had w → Holds caller had (runs caller (length had) w steps)
by_all same caller had [] w h = h
by_all same caller had (s ∷ steps) w h = by_all same caller had steps (step_applied caller (length had) w s) (by_each same caller had w s h)

at_first : (caller : List ℕ) (c : Contents) → Holds caller (receipts_of c caller) (begun c)
at_first caller c = record { own = []; settled = sym (append-nil (receipts_of c caller)); chosen = tt; rest = []; received = refl; one_open = omega arith; messages = tt; kept = tt }

is_delivered : (caller : List ℕ) (before : Contents) (w : World) → Holds caller (receipts_of before caller) w → IsAfter before w → IsDelivered caller before w
is_delivered caller before w h all =
    let short = chosen_short h.own w.script h.chosen in
    record {
      own = h.own;
      settled = h.settled;
      contents = all;
      acted = commands_acted caller before w h.own all h.settled;
      chosen = h.chosen;
      rest = h.rest;
      received = h.received;
      one_open = h.one_open;
      done = λ same. no_rest w.received h.rest h.own h.received (omega (arith, short, same));
    }

-- nothing came to a desk at first
nothing_came : (before : Contents) → before ≡ after before []
nothing_came before = refl

pub delivers : SameWhereEqual → RunsOn → Delivers
delivers same on caller before steps =
    let settled : ℕ = length (receipts_of before caller) in
    is_delivered caller before (runs caller settled (begun before) steps)
    (by_all same caller (receipts_of before caller) steps (begun before) (at_first caller before))
    (after_all on before caller settled steps (begun before) (nothing_came before))

only_at : (command asked : Command) (i : ℕ) → slice_get (asked ∷ []) i ≡ Some command → command ≡ asked
only_at command asked zero e = let same : asked ≡ command = cc e in sym same
only_at command asked (suc i) e = let none : ⊥ = cc e in absurd none

pub asks_no_other : AsksNoOther
asks_no_other command asked among = only_at command asked among.0 among.1
