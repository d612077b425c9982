use Rattle.std.proofs.Common.{refl}
use Rattle.canary_plan.specs.declared.command.Command.TheVariants.{Report}
use Rattle.canary_once.specs.declared.event.Event.TheVariants as event
use Rattle.canary_once.specs.Single.{request_of}
use Rattle.canary_once.specs.Messages.{answered}
use Rattle.canary_once.proofs.BookLemmas.{book_answers}
use Rattle.canary_files.proofs.answer.post_row.Goals as goal

pub returns : goal.returns
returns g c = λ fields is. (
  answered (event.Request (request_of c.args.moment c.args.row.caller c.args.row.number (Report c.args.row.report))) c.post.result,
  refl,
  (c.args.row, is, refl),
  book_answers _ _ _ _ c.post.ensures,
)
