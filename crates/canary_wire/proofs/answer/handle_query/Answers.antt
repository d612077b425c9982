use Rattle.std.proofs.Common.{refl, rules}
use Rattle.canary_once.specs.declared.event.Event.TheVariants as event
use Rattle.canary_once.specs.Messages.{answered}
use Rattle.canary_once.proofs.BookLemmas.{book_answers}
use Rattle.canary_wire.proofs.answer.handle_query.Goals as goal

pub returns : goal.returns
returns g c = λ method target body a. (
  answered (event.Query c.args.moment c.args.query.now) c.view.result,
  search rules,
  (a, refl),
  book_answers _ _ _ _ c.view.ensures,
)
