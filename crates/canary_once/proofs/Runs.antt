-- A run so far.
use Rattle.std.proofs.Common.{◌≡◌, List, [], ◌∷◌, ◌++◌, length, refl, sym, ap, ◌∙◌, arith, append_assoc, append-nil}
use Rattle.canary_release.specs.declared.reply.Reply.{Reply}
use Rattle.canary_once.specs.declared.event.Event.{Event}
use Rattle.canary_once.specs.declared.event.Answer.{Answer}
use Rattle.canary_once.specs.declared.event.Answer.TheVariants.{Replied, Unavailable}
use Rattle.canary_once.specs.declared.book.BookFault.{BookFault}
use Rattle.canary_once.specs.Contents.{Contents}
use Rattle.canary_once.specs.Answers.{answered_events, replies_in, answer, answers_after, answers_of, after}
use Rattle.canary_once.specs.Single.{IsAnswer}
use Rattle.canary_once.proofs.Events.{answer_on, after_on}

-- the answers so far, and the contents
pub record IsRun (c : Contents) (events : List Event) (given : List Answer) (now : Contents) : Type 0 where
  pub answers : replies_in given ≡ answers_of c (answered_events events given)
  pub contents : now ≡ after c (answered_events events given)

answers-push : (c : Contents) (before es : List Event) (e : Event) → answers_after c before (es ++ e ∷ []) ≡ answers_after c before es ++ answer c (before ++ es) e ∷ []
answers-push c before [] e = ap (λ (b : List Event). answer c b e ∷ []) (sym (append-nil before))
answers-push c before (x ∷ es) e = ap (λ (rs : List Reply). answer c before x ∷ rs) (answers-push c (before ++ x ∷ []) es e ∙ ap (λ (b : List Event). answers_after c (before ++ x ∷ []) es ++ answer c b e ∷ []) (append_assoc before (x ∷ []) es))

replies_in-push : (given : List Answer) (reply : Reply) → replies_in (given ++ Replied reply ∷ []) ≡ replies_in given ++ reply ∷ []
replies_in-push [] reply = refl
replies_in-push (Replied r ∷ given) reply = ap (λ (rs : List Reply). r ∷ rs) (replies_in-push given reply)
replies_in-push (Unavailable f ∷ given) reply = replies_in-push given reply

replies_in-drop : (given : List Answer) (fault : BookFault) → replies_in (given ++ Unavailable fault ∷ []) ≡ replies_in given
replies_in-drop [] fault = refl
replies_in-drop (Replied r ∷ given) fault = ap (λ (rs : List Reply). r ∷ rs) (replies_in-drop given fault)
replies_in-drop (Unavailable f ∷ given) fault = replies_in-drop given fault

answered_events-push : (events : List Event) (given : List Answer) (e : Event) (reply : Reply) → length given ≡ length events → answered_events (events ++ e ∷ []) (given ++ Replied reply ∷ []) ≡ answered_events events given ++ e ∷ []
answered_events-push [] [] e reply n = refl
answered_events-push [] (a ∷ given) e reply n = absurd (omega arith)
answered_events-push (x ∷ events) [] e reply n = absurd (omega arith)
answered_events-push (x ∷ events) (Replied r ∷ given) e reply n = ap (λ (es : List Event). x ∷ es) (answered_events-push events given e reply (omega arith))
answered_events-push (x ∷ events) (Unavailable f ∷ given) e reply n = answered_events-push events given e reply (omega arith)

answered_events-drop : (events : List Event) (given : List Answer) (e : Event) (fault : BookFault) → length given ≡ length events → answered_events (events ++ e ∷ []) (given ++ Unavailable fault ∷ []) ≡ answered_events events given
answered_events-drop [] [] e fault n = refl
answered_events-drop [] (a ∷ given) e fault n = absurd (omega arith)
answered_events-drop (x ∷ events) [] e fault n = absurd (omega arith)
answered_events-drop (x ∷ events) (Replied r ∷ given) e fault n = ap (λ (es : List Event). x ∷ es) (answered_events-drop events given e fault (omega arith))
answered_events-drop (x ∷ events) (Unavailable f ∷ given) e fault n = answered_events-drop events given e fault (omega arith)

pub run-push : (c : Contents) (events : List Event) (given : List Answer) (now : Contents) (e : Event) (a : Answer) (new : Contents) → length given ≡ length events → IsRun c events given now → IsAnswer now e a new → IsRun c (events ++ e ∷ []) (given ++ a ∷ []) new
run-push c events given now e (Replied reply) new n run h =
    let before = answered_events events given in record {
      answers = rw (replies_in-push given reply, answered_events-push events given e reply n, answers-push c [] before e, run.answers) (ap (λ (r : Reply). answers_of c before ++ r ∷ []) (h.0 ∙ ap (λ (k : Contents). answer k [] e) run.contents ∙ answer_on c before e));
      contents = rw (answered_events-push events given e reply n) (h.1 ∙ ap (λ (k : Contents). after k (e ∷ [])) run.contents ∙ after_on c before e);
    }
run-push c events given now e (Unavailable fault) new n run h = record {
  answers = rw (replies_in-drop given fault, answered_events-drop events given e fault n) run.answers;
  contents = rw (answered_events-drop events given e fault n) (h ∙ run.contents);
}
