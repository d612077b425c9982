-- The laws of the register.
use Rattle.std.proofs.Common.{◌≡◌, inl, inr, ℕ, ◌+◌, ◌≤◌, List, [], ◌∷◌, ◌++◌, Bool, true, false, refl, sym, ap, ◌∙◌, arith, append_assoc, append-nil}
use Rattle.std.specs.Prelude.{◌==◌, nat_lt, if◌then◌else◌}
use Rattle.std.proofs.lemmas.Bool.Decides.{nat_tests}
use Rattle.canary_release.specs.declared.reply.Reply.{Reply}
use Rattle.canary_release.specs.declared.reply.ReplyStatus.TheVariants.{Accepted, Refused, Conflict}
use Rattle.canary_release.specs.Desks.{apply}
use Rattle.canary_release.specs.Laws.{RefusalsLeaveTheDesk as LeavesTheDesk}
use Rattle.canary_once.specs.declared.event.Request.{Request}
use Rattle.canary_once.specs.declared.event.Event.{Event}
use Rattle.canary_once.specs.declared.event.Event.TheVariants as event
use Rattle.canary_once.specs.Contents.{Contents, count_of, receipt_at}
use Rattle.canary_once.specs.Answers.{answer, answers_after, answers_of, after, repeat_reply, ahead_reply}
use Rattle.canary_once.specs.Single.{reply_to, settle}
use Rattle.canary_once.specs.Laws.{RunsOn, NoneIsAhead, ConflictsChangeNothing, RefusalsLeaveTheDesk}
use Rattle.canary_once.proofs.Events.{request_is, answer_on, after_on, reply_first, after_first}

-- the answers after some events are those on the contents after them
from_there : (c : Contents) (before more es : List Event) → after (after c before) more ≡ after c (before ++ more) → answers_after c (before ++ more) es ≡ answers_after (after c before) more es
from_there c before more [] is = refl
from_there c before more (e ∷ es) is =
    let here : answer c (before ++ more) e ≡ answer (after c before) more e = sym (answer_on c (before ++ more) e) ∙ ap (λ (k : Contents). answer k [] e) (sym is) ∙ answer_on (after c before) more e in
    let next : after (after c before) (more ++ e ∷ []) ≡ after c (before ++ (more ++ e ∷ [])) =
    sym (after_on (after c before) more e) ∙ ap (λ (k : Contents). after k (e ∷ [])) is ∙ after_on c (before ++ more) e ∙ ap (after c) (append_assoc before more (e ∷ [])) in
    let rest : answers_after c ((before ++ more) ++ e ∷ []) es ≡ answers_after (after c before) (more ++ e ∷ []) es =
    ap (λ (b : List Event). answers_after c b es) (append_assoc before more (e ∷ [])) ∙ from_there c before (more ++ e ∷ []) es next in
    λ i. here i ∷ rest i

answers-append : (c : Contents) (before first rest : List Event) → answers_after c before (first ++ rest) ≡ answers_after c before first ++ answers_after c (before ++ first) rest
answers-append c before [] rest = ap (λ (b : List Event). answers_after c b rest) (sym (append-nil before))
answers-append c before (e ∷ first) rest =
    ap (λ (rs : List Reply). answer c before e ∷ rs) (answers-append c (before ++ e ∷ []) first rest
    ∙ ap (λ (b : List Event). answers_after c (before ++ e ∷ []) first ++ answers_after c b rest) (append_assoc before (e ∷ []) first))

after-append : (c : Contents) (first rest : List Event) → after c (first ++ rest) ≡ after (after c first) rest
after-append c first [] = ap (after c) (append-nil first)
after-append c first (e ∷ rest) =
    ap (after c) (sym (append_assoc first (e ∷ []) rest))
    ∙ after-append c (first ++ e ∷ []) rest
    ∙ ap (λ (k : Contents). after k rest) (sym (after_on c first e))
    ∙ sym (after-append (after c first) (e ∷ []) rest)

pub runs_on : RunsOn
runs_on c first rest = (
  answers-append c [] first rest
      ∙ ap (λ (rs : List Reply). answers_of c first ++ rs) (ap (λ (b : List Event). answers_after c b rest) (sym (append-nil first)) ∙ from_there c first [] rest (ap (after c) (sym (append-nil first)))),
  after-append c first rest,
)

-- a number that is no more than the caller's last is a repeat
repeat_below : (k : Contents) (r : Request) (n : ℕ) → count_of k r.caller ≡ n → r.number ≤ n → reply_to k r ≡ repeat_reply (receipt_at k r.caller r.number) r.command
repeat_below k r n is le =
    let new : (r.number == count_of k r.caller + 1) ≡ false = grind (arith, nat_tests, is, le) in
    let old : nat_lt r.number (count_of k r.caller + 1) ≡ true = grind (arith, nat_tests, is, le) in
    ap (λ b. if b then (apply k.desk r.moment r.command).reply else (if nat_lt r.number (count_of k r.caller + 1) then repeat_reply (receipt_at k r.caller r.number) r.command else ahead_reply (count_of k r.caller + 1))) new
    ∙ ap (λ b. if b then repeat_reply (receipt_at k r.caller r.number) r.command else ahead_reply (count_of k r.caller + 1)) old

pub none_is_ahead : NoneIsAhead
none_is_ahead c before r is le = request_is c before r ∙ repeat_below (after c before) r 1000000000 is le

-- a new request is accepted, or refused and the desk is as it was
new_conflict : LeavesTheDesk → (c : Contents) (r : Request) (new : Bool) (other : Reply) → (if new then (apply c.desk r.moment r.command).reply else other).status ≡ Conflict → (if new then settle c r else c) ≡ c
new_conflict leaves c r true other h = elim (leaves c.desk r.moment r.command) [ inl accepted ↦ absurd (let e : Accepted ≡ Conflict = sym accepted ∙ h in cc e) | inr refused ↦ absurd (let e : Refused ≡ Conflict = sym refused.0 ∙ h in cc e) ]
new_conflict leaves c r false other h = refl

new_refusal : LeavesTheDesk → (c : Contents) (r : Request) (new : Bool) (other : Reply) → (if new then (apply c.desk r.moment r.command).reply else other).status ≡ Refused → (if new then settle c r else c).desk ≡ c.desk
new_refusal leaves c r true other h = elim (leaves c.desk r.moment r.command) [ inl accepted ↦ absurd (let e : Accepted ≡ Refused = sym accepted ∙ h in cc e) | inr refused ↦ refused.1 ]
new_refusal leaves c r false other h = refl

pub conflicts_change_nothing : LeavesTheDesk → ConflictsChangeNothing
conflicts_change_nothing leaves c (event.Request r) h =
    sym (after_first c r) ∙ new_conflict leaves c r (r.number == count_of c r.caller + 1) _ (ap (λ (x : Reply). x.status) (reply_first c r) ∙ h)
conflicts_change_nothing leaves c (event.Query moment query) h = refl

pub refusals_leave_the_desk : LeavesTheDesk → RefusalsLeaveTheDesk
refusals_leave_the_desk leaves c (event.Request r) h =
    ap (λ (k : Contents). k.desk) (sym (after_first c r)) ∙ new_refusal leaves c r (r.number == count_of c r.caller + 1) _ (ap (λ (x : Reply). x.status) (reply_first c r) ∙ h)
refusals_leave_the_desk leaves c (event.Query moment query) h = refl
