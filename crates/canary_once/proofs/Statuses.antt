-- No receipt is of a conflict, and how events are answered.
use Rattle.std.proofs.Common.{◌≡◌, ◌⊎◌, inl, inr, ℕ, zero, suc, ◌+◌, ◌-◌, List, [], ◌∷◌, ◌++◌, Bool, true, false, Some, None, refl, sym, ap, ◌∙◌, subst}
use Rattle.std.specs.Prelude.{◌==◌, nat_lt, if◌then◌else◌, Option, unwrap_or, cond, slice_get}
use Rattle.std.specs.Ordering.{nat_cmp}
use Rattle.std.specs.Cmp.Lexicographic.{slice_cmp}
use Rattle.std.specs.Str.{bytes_eq}
use Rattle.std.specs.FinMap.{FinMap, get, get-empty}
use Rattle.std.proofs.lemmas.Slice.Eq.{bytes_eq-Decides}
use Rattle.canary_plan.specs.declared.command.Command.{Command}
use Rattle.canary_plan.specs.Commands.{same_command}
use Rattle.canary_release.specs.declared.reply.Reply.{Reply}
use Rattle.canary_release.specs.declared.reply.ReplyStatus.TheVariants.{Accepted, Conflict, NotFound}
use Rattle.canary_release.specs.declared.state.ServiceState.{ServiceState}
use Rattle.canary_release.specs.Desks.{ModelService, Desk, apply}
use Rattle.canary_release.specs.Laws.{RefusalsLeaveTheDesk as LeavesTheDesk, passed_to}
use Rattle.canary_once.specs.declared.book.Receipt.{Receipt}
use Rattle.canary_once.specs.declared.event.Request.{Request}
use Rattle.canary_once.specs.declared.event.Query.{Query}
use Rattle.canary_once.specs.declared.event.Query.TheVariants.{Service, History, Run}
use Rattle.canary_once.specs.declared.event.Event.TheVariants as event
use Rattle.canary_once.specs.declared.record.RunRecord.{RunRecord}
use Rattle.canary_once.specs.Contents.{Contents, no_contents, count_of, receipt_at, IsSettledStatus, KeepsSettled}
use Rattle.canary_once.specs.Records.{record_numbered}
use Rattle.canary_once.specs.Views.{run_reply, view_passed, view_service, asked_of}
use Rattle.canary_once.specs.Answers.{receipt_of, after, reused_reply, ahead_reply, repeat_reply}
use Rattle.canary_once.specs.Single.{settle, new_reply}
use Rattle.canary_once.specs.Laws.{StaysSettled, RequestsAreAnswered, QueriesAreAnswered}
use Rattle.canary_once.proofs.Events.{list_at, got, reply_first, after_first}
use Rattle.canary_once.proofs.Lawful.{runs_on}

status_of_new : LeavesTheDesk → (desk : Desk) (moment : ℕ) (command : Command) → IsSettledStatus (apply desk moment command).reply.status
status_of_new leaves desk moment command = elim (leaves desk moment command) [ inl accepted ↦ inl accepted | inr refused ↦ inr refused.0 ]

-- a receipt of a list with one more is one of the list, or the new one
added : (receipts : List Receipt) (x k : Receipt) (i : ℕ) → slice_get (receipts ++ x ∷ []) i ≡ Some k → (slice_get receipts i ≡ Some k) ⊎ (x ≡ k)
added [] x k zero e = let same : x ≡ k = cc e in inr same
added [] x k (suc i) e = let none : ⊥ = cc e in absurd none
added (y ∷ receipts) x k zero e = inl e
added (y ∷ receipts) x k (suc i) e = added receipts x k i e

from_either : (callers : FinMap (slice_cmp nat_cmp) (List Receipt)) (caller q : List ℕ) (x k : Receipt) (i : ℕ) (b : Bool) → bytes_eq q caller ≡ b
    → slice_get (unwrap_or (cond b (Some (list_at callers caller ++ x ∷ [])) (get callers q)) []) i ≡ Some k → (slice_get (list_at callers q) i ≡ Some k) ⊎ (x ≡ k)
from_either callers caller q x k i true same e =
    elim (added (list_at callers caller) x k i e) [ inl h ↦ inl (ap (λ n. slice_get (list_at callers n) i) ((bytes_eq-Decides q caller).0 same) ∙ h) | inr h ↦ inr h ]
from_either callers caller q x k i false same e = inl e

settles : LeavesTheDesk → (c : Contents) (r : Request) → KeepsSettled c → KeepsSettled (settle c r)
settles leaves c r all q n k e =
    let x : Receipt = receipt_of r (apply c.desk r.moment r.command).reply in
    let P : Receipt → Type 0 = λ y. IsSettledStatus y.reply.status in
    elim (from_either c.callers r.caller q x k (n - 1) (bytes_eq q r.caller) refl (ap (λ l. slice_get l (n - 1)) (sym (got c.callers r.caller q x)) ∙ e)) [
      | inl h ↦ all q n k h
      | inr h ↦ subst P h (status_of_new leaves c.desk r.moment r.command)
    ]

one_settles : LeavesTheDesk → (c : Contents) (r : Request) (new : Bool) → KeepsSettled c → KeepsSettled (if new then settle c r else c)
one_settles leaves c r true all = settles leaves c r all
one_settles leaves c r false all = all

nothing_at : (i : ℕ) (k : Receipt) → ◌≡◌ {A = Option Receipt} (slice_get [] i) (Some k) → ⊥
nothing_at zero k e = cc e
nothing_at (suc i) k e = cc e

pub none_settled : KeepsSettled no_contents
none_settled q n k e =
    let none : ◌≡◌ {A = Option Receipt} (slice_get [] (n - 1)) (Some k) = sym (ap (λ (o : Option (List Receipt)). slice_get (unwrap_or o []) (n - 1)) (get-empty (slice_cmp nat_cmp) q)) ∙ e in
    absurd (nothing_at (n - 1) k none)

pub stays_settled : LeavesTheDesk → StaysSettled
stays_settled leaves c [] all = all
stays_settled leaves c (event.Request r ∷ es) all =
    let next : KeepsSettled (after c (event.Request r ∷ [])) = subst KeepsSettled (after_first c r) (one_settles leaves c r (r.number == count_of c r.caller + 1) all) in
    subst KeepsSettled (sym (runs_on c (event.Request r ∷ []) es).1) (stays_settled leaves (after c (event.Request r ∷ [])) es next)
stays_settled leaves c (event.Query moment query ∷ es) all = subst KeepsSettled (sym (runs_on c (event.Query moment query ∷ []) es).1) (stays_settled leaves c es all)

-- Answers.

same_settled : (k : Receipt) (command : Command) (same : Bool) → IsSettledStatus k.reply.status → let reply = (if same then k.reply else reused_reply) in IsSettledStatus reply.status ⊎ (reply.status ≡ Conflict)
same_settled k command true h = inl h
same_settled k command false h = inr refl

repeat_settled : (found : Option Receipt) (command : Command) → ((k : Receipt) → found ≡ Some k → IsSettledStatus k.reply.status) → IsSettledStatus (repeat_reply found command).status ⊎ ((repeat_reply found command).status ≡ Conflict)
repeat_settled None command all = inr refl
repeat_settled (Some k) command all = same_settled k command (same_command k.command command) (all k refl)

one_answered : LeavesTheDesk → (c : Contents) (r : Request) (new old : Bool) → KeepsSettled c
    → (let reply = (if new then new_reply c r else (if old then repeat_reply (receipt_at c r.caller r.number) r.command else ahead_reply (count_of c r.caller + 1))) in
    IsSettledStatus reply.status ⊎ (reply.status ≡ Conflict))
one_answered leaves c r true old all = inl (status_of_new leaves c.desk r.moment r.command)
one_answered leaves c r false true all = repeat_settled (receipt_at c r.caller r.number) r.command (λ k e. all r.caller r.number k e)
one_answered leaves c r false false all = inr refl

pub requests_answered : LeavesTheDesk → RequestsAreAnswered
requests_answered leaves c r all =
    let P : Reply → Type 0 = λ x. IsSettledStatus x.status ⊎ (x.status ≡ Conflict) in
    subst P (reply_first c r) (one_answered leaves c r (r.number == count_of c r.caller + 1) (nat_lt r.number (count_of c r.caller + 1)) all)

abbrev IsShown : Reply → Type 0
IsShown x = (x.status ≡ Accepted) ⊎ (x.status ≡ NotFound)

run_shown : (s : ServiceState) (found : Option RunRecord) → IsShown (run_reply s found)
run_shown s None = inr refl
run_shown s (Some r) = inl refl

passed_shown : (m : ModelService) (query : Query) → IsShown (view_passed m query)
passed_shown m (Service name) = inl refl
passed_shown m (History name) = inl refl
passed_shown m (Run name number) = run_shown m.service (record_numbered m.past number)

service_shown : (found : Option ModelService) (moment : ℕ) (query : Query) → IsShown (view_service found moment query)
service_shown None moment query = inr refl
service_shown (Some m) moment query = passed_shown (passed_to moment m) query

pub queries_answered : QueriesAreAnswered
queries_answered c moment query = service_shown (get c.desk.services (asked_of query)) moment query
