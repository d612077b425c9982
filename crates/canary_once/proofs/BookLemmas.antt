-- What a book did, call after call.
use Rattle.std.proofs.Common.{refl, ◌∙◌}
use Rattle.canary_once.specs.declared.event.Event.{Event}
use Rattle.canary_once.specs.declared.event.Answer.{Answer}
use Rattle.canary_once.specs.BookCalls.{BookState, Stays}
use Rattle.canary_once.specs.Single.{IsAnsweredBy}
use Rattle.canary_once.specs.Messages.{rejected, answered, BookStep}

pub stays_then : (a b c : BookState) → Stays a b → Stays b c → Stays a c
stays_then a b c p q = record {
  honest = λ h. p.honest (q.honest h);
  in_memory = λ h. q.in_memory (p.in_memory h);
  same = λ h. q.same h ∙ p.same (q.honest h);
  sure = q.sure ∙ p.sure;
}

-- it was not asked about a message
pub book_rests : {R : Type 0} (b : BookState) (r : R) → BookStep b b (rejected r)
book_rests b r = record { honest = λ h. h; in_memory = λ m. m; sure = (refl, tt); sound = λ h sound. sound; handled = λ h. refl; receipts = λ h caller number receipt e. e }

-- it answered an event
pub book_answers : {R : Type 0} (b d : BookState) (e : Event) (a : Answer) → IsAnsweredBy b d e a → BookStep {R = R} b d (answered e a)
book_answers b d e a by = record { honest = by.honest; in_memory = by.in_memory; sure = (by.sure, by.fault); sound = by.sound; handled = by.step; receipts = by.receipts }
