use Rattle.std.proofs.Common.{refl, inl}
use Rattle.canary_once.specs.Messages.{rejected}
use Rattle.canary_once.proofs.BookLemmas.{book_rests}
use Rattle.canary_wire.proofs.answer.handle.Goals as goal

pub returns-in-Err : goal.returns-in-Err
returns-in-Err g c = (
  rejected c.in-Err.rejection,
  refl,
  inl c.in-Err.ensures,
  book_rests (g.B.Book.state c.args.book.now) c.in-Err.rejection,
)
