-- The register with its maps as functions of names, which computes, and that it is the register.
use Rattle.std.proofs.Common.{◌≡◌, ℕ, ◌+◌, ◌-◌, List, [], ◌∷◌, ◌++◌, length, Bool, true, false, refl, sym, ap, ◌∙◌, append_assoc, append-nil}
use Rattle.std.specs.Prelude.{◌==◌, nat_lt, if◌then◌else◌, map, Option, None, unwrap_or, slice_get}
use Rattle.std.specs.Ordering.{nat_cmp}
use Rattle.std.specs.Cmp.Lexicographic.{slice_cmp, nat_list_cmp_total}
use Rattle.std.specs.FinMap.{get, get-insert, get-empty}
use Rattle.canary_release.specs.declared.reply.Reply.{Reply}
use Rattle.canary_release.proofs.Worlds as desks
use Rattle.canary_once.specs.declared.book.Receipt.{Receipt}
use Rattle.canary_once.specs.declared.event.Request.{Request}
use Rattle.canary_once.specs.declared.event.Event.{Event}
use Rattle.canary_once.specs.declared.event.Event.TheVariants as event
use Rattle.canary_once.specs.Contents.{Contents, no_contents, count_of, receipts_of}
use Rattle.canary_once.specs.Answers.{receipt_of, repeat_reply, ahead_reply, answers_after, answers_of, after}
use Rattle.canary_once.specs.Views.{asked_of, view_service, view_of}
use Rattle.canary_once.specs.Single.{settle}
use Rattle.canary_once.proofs.Events.{request_is, after_is, after_query}

pub record World : Type 0 where
  pub callers : List ℕ → Option (List Receipt)
  pub desk : desks.World

abbrev pub nowhere : World
nowhere = record { callers = λ caller. None; desk = desks.nowhere }

abbrev pub receipts_in : World → List ℕ → List Receipt
receipts_in w caller = unwrap_or (w.callers caller) []

abbrev pub reply_in : World → Request → Reply
reply_in w r =
    let next = length (receipts_in w r.caller) + 1 in
    if r.number == next
    then (desks.ruling_in w.desk r.moment r.command).reply
    else (if nat_lt r.number next then repeat_reply (slice_get (receipts_in w r.caller) (r.number - 1)) r.command else ahead_reply next)

abbrev pub with_settled : World → Request → World
with_settled w r =
    let receipt = receipt_of r (desks.ruling_in w.desk r.moment r.command).reply in
    record {
      callers = desks.changed_at w.callers r.caller (receipts_in w r.caller ++ receipt ∷ []);
      desk = desks.world_after w.desk r.moment r.command;
    }

abbrev pub world_after : World → Request → World
world_after w r = if r.number == length (receipts_in w r.caller) + 1 then with_settled w r else w

abbrev pub replies_in : World → List Event → List Reply
replies_in w [] = []
replies_in w (event.Request r ∷ es) = reply_in w r ∷ replies_in (world_after w r) es
replies_in w (event.Query moment query ∷ es) = view_service (w.desk.services (asked_of query)) moment query ∷ replies_in w es

abbrev pub world_after_all : World → List Event → World
world_after_all w [] = w
world_after_all w (event.Request r ∷ es) = world_after_all (world_after w r) es
world_after_all w (event.Query moment query ∷ es) = world_after_all w es

abbrev pub world_of : Contents → World
world_of c = record { callers = get c.callers; desk = desks.world_of c.desk }

settled_lem : (c : Contents) (r : Request) → world_of (settle c r) ≡ with_settled (world_of c) r
settled_lem c r =
    let receipt = receipt_of r (desks.ruling_in (desks.world_of c.desk) r.moment r.command).reply in
    λ i. record {
      callers = λ q. get-insert nat_list_cmp_total c.callers r.caller (unwrap_or (get c.callers r.caller) [] ++ receipt ∷ []) q i;
      desk = desks.world-apply c.desk r.moment r.command i;
    }

one_lem : (c : Contents) (r : Request) (new : Bool) → world_of (if new then settle c r else c) ≡ (if new then with_settled (world_of c) r else world_of c)
one_lem c r true = settled_lem c r
one_lem c r false = refl

one_more : (c : Contents) (before : List Event) (r : Request) → world_of (after c (before ++ event.Request r ∷ [])) ≡ world_after (world_of (after c before)) r
one_more c before r = ap world_of (after_is c before r) ∙ one_lem (after c before) r (r.number == count_of (after c before) r.caller + 1)

replies-after : (c : Contents) (before es : List Event) → answers_after c before es ≡ replies_in (world_of (after c before)) es
replies-after c before [] = refl
replies-after c before (event.Request r ∷ es) =
    λ i. request_is c before r i ∷ (replies-after c (before ++ event.Request r ∷ []) es ∙ ap (λ (w : World). replies_in w es) (one_more c before r)) i
replies-after c before (event.Query moment query ∷ es) =
    λ i. view_of (after c before).desk moment query ∷ (replies-after c (before ++ event.Query moment query ∷ []) es ∙ ap (λ (k : Contents). replies_in (world_of k) es) (after_query c before moment query)) i

world-no_contents : world_of no_contents ≡ nowhere
world-no_contents = λ i. record { callers = λ q. get-empty (slice_cmp nat_cmp) q i; desk = desks.world-no_desk i }

contents-after : (c : Contents) (before es : List Event) → world_of (after c (before ++ es)) ≡ world_after_all (world_of (after c before)) es
contents-after c before [] = ap (λ (b : List Event). world_of (after c b)) (append-nil before)
contents-after c before (event.Request r ∷ es) =
    ap (λ (b : List Event). world_of (after c b)) (sym (append_assoc before (event.Request r ∷ []) es))
    ∙ contents-after c (before ++ event.Request r ∷ []) es
    ∙ ap (λ (w : World). world_after_all w es) (one_more c before r)
contents-after c before (event.Query moment query ∷ es) =
    ap (λ (b : List Event). world_of (after c b)) (sym (append_assoc before (event.Query moment query ∷ []) es))
    ∙ contents-after c (before ++ event.Query moment query ∷ []) es
    ∙ ap (λ (k : Contents). world_after_all (world_of k) es) (after_query c before moment query)

-- the replies, from empty contents
pub replies_from_nothing : (es : List Event) (rs : List Reply) → replies_in nowhere es ≡ rs → answers_of no_contents es ≡ rs
replies_from_nothing es rs e = replies-after no_contents [] es ∙ ap (λ (w : World). replies_in w es) world-no_contents ∙ e

-- and the receipts of a caller
pub receipts_from_nothing : (es : List Event) (caller : List ℕ) (rs : List Reply) → map (λ (k : Receipt). k.reply) (receipts_in (world_after_all nowhere es) caller) ≡ rs → map (λ (k : Receipt). k.reply) (receipts_of (after no_contents es) caller) ≡ rs
receipts_from_nothing es caller rs e =
    ap (λ (w : World). map (λ (k : Receipt). k.reply) (receipts_in w caller)) (contents-after no_contents [] es ∙ ap (λ (w : World). world_after_all w es) world-no_contents) ∙ e
