use Rattle.std.proofs.Common.{[], arith}
use Rattle.canary_programs.proofs.Again.{one_more}
use Rattle.canary_once.proofs.BookLemmas.{stays_then}
use Rattle.canary_programs.specs.Successions.{template_again}
use Rattle.canary_programs.proofs.succession.with_templates.Goals as goal

pub loop-name-preserved : goal.loop-name-preserved
loop-name-preserved g c =
    let old = g.B.Book.state c.args.book.now in
    let now = g.B.Book.state c.loop-name.book in
    let new = g.B.Book.state c.template_again.new.book in (
      stays_then old now new c.loop-name.invariant.0 c.template_again.ensures.stays,
      one_more template_again old now new c.args.names.now c.loop-name.name-index c.name-item.result [] c.loop-name.commands c.push_if.new.commands c.in_ok-command.command (omega arith) c.name-item.is
          c.loop-name.invariant.0 c.template_again.ensures.stays c.loop-name.invariant.1 c.in_ok-command.ensures.made c.in_ok-push_if.ensures.ok,
    )
