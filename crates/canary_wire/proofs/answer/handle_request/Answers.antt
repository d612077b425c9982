use Rattle.std.proofs.Common.{refl, inr, rules}
use Rattle.canary_once.specs.declared.event.Event.TheVariants as event
use Rattle.canary_once.specs.Single.{request_of}
use Rattle.canary_wire.specs.declared.rejection.Rejection.TheVariants.{Unsupported, Unreadable}
use Rattle.canary_once.specs.Messages.{rejected, answered}
use Rattle.canary_once.proofs.BookLemmas.{book_rests, book_answers}
use Rattle.canary_wire.proofs.answer.handle_request.Goals as goal

pub returns-in-Ok : goal.returns-in-Ok
returns-in-Ok g c = λ method target a. (
  answered (event.Request (request_of c.args.moment c.args.address.caller c.args.address.number c.in-Ok.command)) c.post-answer.result,
  search rules,
  (c.args.address, c.in-Ok.command, a, c.in-Ok.ensures, refl),
  book_answers _ _ _ _ c.post-answer.ensures,
)

pub returns-in-Err-Unsupported : goal.returns-in-Err-Unsupported
returns-in-Err-Unsupported g c = λ method target a. (
  rejected Unsupported,
  refl,
  inr (c.args.address, a, rw c.in-Err-Unsupported.field-0-is at c.in-Err-Unsupported.ensures),
  book_rests (g.B.Book.state c.args.book.now) Unsupported,
)

pub returns-in-Err-Unreadable : goal.returns-in-Err-Unreadable
returns-in-Err-Unreadable g c = λ method target a. (
  rejected Unreadable,
  refl,
  inr (c.args.address, a, rw c.in-Err-Unreadable.field-0-is at c.in-Err-Unreadable.ensures),
  book_rests (g.B.Book.state c.args.book.now) Unreadable,
)
