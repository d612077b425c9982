use Rattle.std.proofs.Common.{rules}
use Rattle.canary_once.specs.Messages.{rejected}
use Rattle.canary_once.proofs.BookLemmas.{book_rests}
use Rattle.canary_files.proofs.answer.handle.Goals as goal

pub returns-in-Err-Refused : goal.returns-in-Err-Refused
returns-in-Err-Refused g c = (
  rejected c.in-Err-Refused.refusal,
  search rules,
  search rules,
  book_rests (g.B.Book.state c.args.book.now) c.in-Err-Refused.refusal,
)
