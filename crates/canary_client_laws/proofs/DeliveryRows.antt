-- Worked rows of delivery: what a caller writes, sends and hears, step by step.
use Rattle.std.proofs.Common.{◌≡◌, ℕ, List, [], ◌∷◌, refl, ap}
use Rattle.std.specs.Prelude.{codes, Some, slice_get}
use Rattle.std.specs.Fmt.{digits}
use Rattle.canary_plan.specs.declared.command.Command.{Command}
use Rattle.canary_plan.specs.declared.command.Command.TheVariants.{Abort, Promote, PromoteFull}
use Rattle.canary_release.specs.declared.reply.Reply.{Reply}
use Rattle.canary_release.proofs.Stories.{b, ok, no, web, add, two_pauses}
use Rattle.canary_once.specs.declared.book.Receipt.{Receipt}
use Rattle.canary_once.specs.declared.event.Event.{Event}
use Rattle.canary_once.specs.declared.event.Event.TheVariants as event
use Rattle.canary_once.specs.Contents.{Contents, no_contents}
use Rattle.canary_once.specs.Answers.{after, answer, reused_reply}
use Rattle.canary_once.specs.Single as single
use Rattle.canary_once.proofs.Worlds.{replies_from_nothing}
use Rattle.canary_client_laws.specs.Delivery.{Message, Answered, World, begun, Step, Ask, Instead, Send, Comes, Hears, Other, hears, request_of, runs}

abbrev ops : List ℕ
ops = codes "ops"

abbrev sent_as : ℕ → Command → Message
sent_as place command = record { place = place; command = command }

abbrev answered_as : ℕ → Command → Reply → Answered
answered_as place command reply = record { place = place; command = command; reply = reply }

abbrev kept_as : Command → Reply → Receipt
kept_as command reply = record { command = command; reply = reply }

-- What the caller writes and sends, whatever the desk contains.

-- one number is pending at most: a command that the caller asks meanwhile is not written
one_at_a_time : (c : Contents) → (runs ops 7 (begun c) (Ask (Promote web) ∷ Ask (Abort web) ∷ [])).script ≡ (Promote web ∷ []) ∷ []
one_at_a_time c = refl

-- nothing is sent that does not stand in the journal
nothing_to_send : (c : Contents) → (runs ops 7 (begun c) (Send 0 ∷ Ask (Promote web) ∷ Send 1 ∷ [])).sent ≡ []
nothing_to_send c = refl

-- a command that the caller asks in place of another one has its number
in_its_place : (c : Contents) → (runs ops 7 (begun c) (Ask (PromoteFull web) ∷ Send 0 ∷ Instead (Abort web) ∷ Send 1 ∷ [])).sent ≡ sent_as 0 (Abort web) ∷ sent_as 0 (PromoteFull web) ∷ []
in_its_place c = refl

-- the caller asks nothing in place of another command if no number is pending
too_late : (c : Contents) → (runs ops 7 (begun c) (Instead (Abort web) ∷ [])).script ≡ []
too_late c = refl

-- a caller with seven settled requests goes on from number 8
first_number : (request_of ops 7 b (sent_as 0 (Promote web))).number ≡ 8
first_number = refl

-- What the caller hears.

-- a world in which the caller asked a full promotion and an abort in its place, with these answers
abbrev asked_twice : Contents → List Answered → World
asked_twice c answers =
    record {
      contents = c;
      came = [];
      script = (PromoteFull web ∷ Abort web ∷ []) ∷ [];
      received = [];
      sent = sent_as 0 (Abort web) ∷ sent_as 0 (PromoteFull web) ∷ [];
      answered = answers;
    }

-- the promotion had come first: `reused` settles nothing, and its own reply does, once
promoted : (c : Contents) (reply : List ℕ) → (runs ops 7 (asked_twice c (answered_as 0 (PromoteFull web) (ok reply) ∷ answered_as 0 (Abort web) reused_reply ∷ [])) (Hears 1 ∷ Hears 0 ∷ Hears 0 ∷ [])).received ≡ kept_as (PromoteFull web) (ok reply) ∷ []
promoted c reply = refl

-- the abort came first, and was refused: a refusal settles its number, too
aborted : (c : Contents) (reply : List ℕ) → (runs ops 7 (asked_twice c (answered_as 0 (PromoteFull web) reused_reply ∷ answered_as 0 (Abort web) (no reply) ∷ [])) (Hears 0 ∷ Hears 1 ∷ [])).received ≡ kept_as (Abort web) (no reply) ∷ []
aborted c reply = refl

-- the caller does not take an answer to an earlier number, which comes again, for one to the next
late_answer : (c : Contents) (reply : List ℕ) → (runs ops 7 (asked_twice c (answered_as 0 (Abort web) (ok reply) ∷ [])) (Hears 0 ∷ Ask (Promote web) ∷ Hears 0 ∷ [])).received ≡ kept_as (Abort web) (ok reply) ∷ []
late_answer c reply = refl

-- nobody else sends under this name, so such an event is no step
under_this_name : (c : Contents) → (runs ops 7 (begun c) (Other (event.Request (single.request_of b ops 8 (Promote web))) ∷ [])).contents ≡ c
under_this_name c = refl

under_another_name : (c : Contents) → (runs ops 7 (begun c) (Other (event.Request (single.request_of b (codes "dev") 1 (Promote web))) ∷ [])).contents ≡ after c (event.Request (single.request_of b (codes "dev") 1 (Promote web)) ∷ [])
under_another_name c = refl

-- The whole way, from empty contents: the caller hears the reply of the desk, byte for byte.

abbrev asked_and_sent : List Step
asked_and_sent = Ask (add web two_pauses) ∷ Send 0 ∷ Comes 0 b ∷ []

abbrev first : Event
first = event.Request (single.request_of b ops 1 (add web two_pauses))

abbrev added : Reply
added = ok (codes "{\"code\":\"ok\",\"service\":\"web\",\"status\":\"Healthy\",\"step\":4,\"weight\":100}")

came_first : (runs ops 0 (begun no_contents) asked_and_sent).came ≡ first ∷ []
came_first = refl

its_answer : answer no_contents [] first ≡ added
unfolding digits
its_answer =
    let all : answer no_contents [] first ∷ [] ≡ added ∷ [] = replies_from_nothing (first ∷ []) (added ∷ []) refl in
    cc all

whole_way : (hears (runs ops 0 (begun no_contents) asked_and_sent) (slice_get (runs ops 0 (begun no_contents) asked_and_sent).answered 0)).received
    ≡ kept_as (add web two_pauses) added ∷ []
whole_way =
    ap (λ (reply : Reply). (hears (runs ops 0 (begun no_contents) asked_and_sent) (Some (answered_as 0 (add web two_pauses) reply))).received) its_answer
