-- No answer says that a number was used for another command.
use Rattle.std.proofs.Common.{◌≡◌, inl, inr, ℕ, ◌+◌, ◌-◌, ◌<◌, List, [], ◌∷◌, ◌++◌, length, Bool, true, false, Some, refl, sym, ap, ◌∙◌, arith}
use Rattle.std.specs.Prelude.{◌≢◌, ◌⊎◌, ◌==◌, nat_lt, if◌then◌else◌, map, filter, take, Option, option_map, slice_get}
use Rattle.std.specs.List.{AllByRecursion}
use Rattle.std.proofs.lemmas.Bool.{ltb-true}
use Rattle.std.proofs.lemmas.Option.{slice_get-map, same_Some}
use Rattle.std.proofs.lemmas.List.{length-map}
use Rattle.canary_plan.specs.declared.command.Command.{Command}
use Rattle.canary_plan.specs.Commands.{same_command, SameWhereEqual}
use Rattle.canary_release.specs.declared.reply.Reply.{Reply}
use Rattle.canary_release.specs.declared.reply.ReplyStatus.TheVariants.{Accepted, Refused, Conflict, NotFound}
use Rattle.canary_release.specs.Desks.{Desk, apply, machine}
use Rattle.canary_release.specs.Laws.{RefusalsLeaveTheDesk as LeavesTheDesk}
use Rattle.canary_once.specs.declared.book.Receipt.{Receipt}
use Rattle.canary_once.specs.declared.event.Request.{Request}
use Rattle.canary_once.specs.declared.event.Event.{Event}
use Rattle.canary_once.specs.declared.event.Event.TheVariants as event
use Rattle.canary_once.specs.Contents.{Contents, count_of, receipts_of, receipt_at, IsSettledStatus, KeepsSettled}
use Rattle.canary_once.specs.Answers.{is_of, next_number, news_of, settled_requests, after, reused_reply, ahead_reply, repeat_reply, answer, answers_after}
use Rattle.canary_once.specs.Laws.{StaysSettled, QueriesAreAnswered}
use Rattle.canary_client_laws.specs.Senders.{Scripts, IsDrawn, AreDrawn, commands_of, NoneIsReused}
use Rattle.canary_client_laws.proofs.Lists.{there_in_first, some_there, behind}
use Rattle.canary_client_laws.proofs.Receipts.{own, receipt_for, replies_after, receipts_after, own_commands}
use Rattle.canary_client_laws.proofs.Drawn.{drawn_parts, drawn_append, settles_first}

-- Replies that are not it.

settled_not : (x : Reply) → IsSettledStatus x.status → x ≢ reused_reply
settled_not x s e =
    let conflict : x.status ≡ Conflict = ap (λ (y : Reply). y.status) e in
    elim s [ inl a ↦ let no_way : Accepted ≡ Conflict = sym a ∙ conflict in cc no_way | inr r ↦ let no_way : Refused ≡ Conflict = sym r ∙ conflict in cc no_way ]

shown_not : (x : Reply) → (x.status ≡ Accepted) ⊎ (x.status ≡ NotFound) → x ≢ reused_reply
shown_not x s e =
    let conflict : x.status ≡ Conflict = ap (λ (y : Reply). y.status) e in
    elim s [ inl a ↦ let no_way : Accepted ≡ Conflict = sym a ∙ conflict in cc no_way | inr r ↦ let no_way : NotFound ≡ Conflict = sym r ∙ conflict in cc no_way ]

-- the code of one begins with an a, that of the other with an r
ahead_not : (expected : ℕ) → ahead_reply expected ≢ reused_reply
ahead_not expected e =
    let letters : ◌≡◌ {A = Option ℕ} (Some 97) (Some 114) = ap (λ (y : Reply). slice_get y.body 9) e in
    let same : 97 ≡ 114 = same_Some 97 114 letters in
    omega (arith, same)

pub new_settled : LeavesTheDesk → (desk : Desk) (moment : ℕ) (command : Command) → IsSettledStatus (apply desk moment command).reply.status
new_settled leaves desk moment command = elim (leaves desk moment command) [ inl accepted ↦ inl accepted | inr refused ↦ inr refused.0 ]

-- A repeat has the command of its receipt.

kept_command : (ks : List Receipt) (script : List Command) (i : ℕ) (command : Command) → map (λ (k : Receipt). k.command) ks ≡ take (length ks) script → i < length ks → slice_get script i ≡ Some command
    → (k : Receipt) × (slice_get ks i ≡ Some k) × (k.command ≡ command)
kept_command ks script i command first h there =
    let some = some_there ks i h in
    let mapped : slice_get (map (λ (k : Receipt). k.command) ks) i ≡ Some some.0.command = slice_get-map (λ (k : Receipt). k.command) ks i ∙ ap (λ o. option_map (λ (k : Receipt). k.command) o) some.1 in
    let both : Some some.0.command ≡ Some command = sym mapped ∙ ap (λ cs. slice_get cs i) first ∙ there_in_first script (length ks) i h ∙ there in
    (some.0, some.1, same_Some some.0.command command both)

-- the receipts of a caller's new requests
abbrev receipts_for : Contents → List Event → List ℕ → List Receipt
receipts_for c es caller = map receipt_for (own caller (news_of c es) (replies_after c es))

-- the receipt under a number after those that the caller had
receipt_behind : (c : Contents) (es : List Event) (caller : List ℕ) (number place : ℕ) → number ≡ count_of c caller + place + 1 → receipt_at (after c es) caller number ≡ slice_get (receipts_for c es caller) place
receipt_behind c es caller number place is =
    let at : number - 1 ≡ length (receipts_of c caller) + place = omega (arith, is) in
    ap (slice_get (receipts_of (after c es) caller)) at
    ∙ ap (λ ks. slice_get ks (length (receipts_of c caller) + place)) (receipts_after c es caller)
    ∙ behind (receipts_of c caller) (receipts_for c es caller) place

repeat_not : SameWhereEqual → (found : Option Receipt) (k : Receipt) (command : Command) → found ≡ Some k → k.command ≡ command → IsSettledStatus k.reply.status → repeat_reply found command ≢ reused_reply
repeat_not same found k command is e settled =
    let alike : same_command k.command command ≡ true = (same k.command command).1 e in
    let given : repeat_reply found command ≡ k.reply = ap (λ o. repeat_reply o command) is ∙ ap (λ b. if b then k.reply else reused_reply) alike in
    λ reused. settled_not k.reply settled (sym given ∙ reused)

-- The answer to one event, and to all.

request_not : SameWhereEqual → LeavesTheDesk → (scripts : Scripts) (c : Contents) (before : List Event) (r : Request) (new old : Bool)
    → (r.number == next_number c (news_of c before) r.caller) ≡ new → nat_lt r.number (next_number c (news_of c before) r.caller) ≡ old
    → AreDrawn scripts c before → IsDrawn scripts c r → KeepsSettled (after c before)
    → (if new then (apply (machine c.desk (settled_requests c before)).desk r.moment r.command).reply
    else (if old then repeat_reply (receipt_at (after c before) r.caller r.number) r.command else ahead_reply (next_number c (news_of c before) r.caller))) ≢ reused_reply
request_not same leaves scripts c before r true old e o drawn one keeps =
    settled_not _ (new_settled leaves (machine c.desk (settled_requests c before)).desk r.moment r.command)
request_not same leaves scripts c before r false true e o drawn one keeps =
    let fs : List Request = filter (is_of r.caller) (news_of c before) in
    let mine : List Receipt = receipts_for c before r.caller in
    let less : r.number < next_number c (news_of c before) r.caller = ltb-true r.number (next_number c (news_of c before) r.caller) o in
    let number = one.number in
    let settled = settles_first scripts c before r.caller drawn in
    let commands : map (λ (k : Receipt). k.command) mine ≡ commands_of r.caller (news_of c before) = own_commands c before r.caller in
    let long : length mine ≡ length fs =
    sym (length-map mine (λ (k : Receipt). k.command)) ∙ ap length commands ∙ length-map fs (λ (x : Request). x.command) in
    let first : map (λ (k : Receipt). k.command) mine ≡ take (length mine) (scripts r.caller) = commands ∙ settled.commands ∙ ap (λ n. take n (scripts r.caller)) (sym long) in
    let kept = kept_command mine (scripts r.caller) one.place r.command first (omega (arith, less, number, long)) one.command in
    let there : receipt_at (after c before) r.caller r.number ≡ Some kept.0 = receipt_behind c before r.caller r.number one.place number ∙ kept.1 in
    repeat_not same (receipt_at (after c before) r.caller r.number) kept.0 r.command there kept.2 (keeps r.caller r.number kept.0 there)
request_not same leaves scripts c before r false false e o drawn one keeps = ahead_not (next_number c (news_of c before) r.caller)

answer_not : SameWhereEqual → LeavesTheDesk → StaysSettled → QueriesAreAnswered → (scripts : Scripts) (c : Contents) (before : List Event) (e : Event)
    → KeepsSettled c → AreDrawn scripts c before → AreDrawn scripts c (e ∷ []) → answer c before e ≢ reused_reply
answer_not same leaves stays queries scripts c before (event.Request r) keeps drawn one =
    request_not same leaves scripts c before r (r.number == next_number c (news_of c before) r.caller) (nat_lt r.number (next_number c (news_of c before) r.caller)) refl refl drawn one.0 (stays c before keeps)
answer_not same leaves stays queries scripts c before (event.Query moment query) keeps drawn one = shown_not _ (queries (after c before) moment query)

answers_not : SameWhereEqual → LeavesTheDesk → StaysSettled → QueriesAreAnswered → (scripts : Scripts) (c : Contents) (before es : List Event)
    → KeepsSettled c → AreDrawn scripts c before → AreDrawn scripts c es → AllByRecursion (λ reply. reply ≢ reused_reply) (answers_after c before es)
answers_not same leaves stays queries scripts c before [] keeps drawn rest = tt
answers_not same leaves stays queries scripts c before (e ∷ es) keeps drawn rest =
    let parts = drawn_parts scripts c (e ∷ []) es rest in (
      answer_not same leaves stays queries scripts c before e keeps drawn parts.0,
      answers_not same leaves stays queries scripts c (before ++ e ∷ []) es keeps (drawn_append scripts c before (e ∷ []) drawn parts.0) parts.1,
    )

pub none_is_reused : SameWhereEqual → LeavesTheDesk → StaysSettled → QueriesAreAnswered → NoneIsReused
none_is_reused same leaves stays queries scripts c es keeps all = answers_not same leaves stays queries scripts c [] es keeps tt all
