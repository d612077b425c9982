use Rattle.std.proofs.Common.{ap, subst}
use Rattle.canary_once.specs.Contents.{Contents}
use Rattle.canary_once.specs.contracts.memory.MemoryBookBook.TheImpl as memory_book
use Rattle.canary_cli_desk.specs.Run.{IsServed, Standing}
use Rattle.canary_cli_desk.proofs.Served.{served_so, standing, standing_fresh}
use Rattle.canary_cli_desk.proofs.run.answer_in_memory.Goals as goal

pub returns : goal.returns
returns g c =
    let r = g.R.Read.remaining c.args.input.now in
    let new_r = g.R.Read.remaining c.serve.new.reader in
    let w = g.W.Write.contents c.args.output.now in
    let new_w = g.W.Write.contents c.serve.new.writer in
    let empty : Contents = (memory_book.ghosts.state c.new-book.result).contents in
    let start : Standing = standing c.new-clock.result empty in
    let end : Standing = standing c.serve.new.clock (memory_book.ghosts.state c.serve.new.book).contents in
    let served = served_so r new_r w new_w start end c.serve.result c.serve.ensures.ok c.serve.ensures.read c.serve.ensures.write
    (λ no. let same = c.serve.ensures.memory no in (ap g.R.Read.remaining same.0, ap g.W.Write.contents same.1)) in
    let is_fresh = standing_fresh c.new-clock.result empty c.args.at c.args.step c.new-clock.ensures.value c.new-book.ensures.none in
    (c.serve.result, c.done_of.ensures, subst (λ (s : Standing). IsServed r new_r w new_w s c.serve.result) is_fresh served)
