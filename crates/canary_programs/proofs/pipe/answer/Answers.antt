use Rattle.std.proofs.Common.{◌∙◌, ap, sym}
use Rattle.canary_once.specs.Messages.{desk_state}
use Rattle.canary_programs.proofs.Served.{served_so, only_memory}
use Rattle.canary_programs.proofs.pipe.answer.Goals as goal

pub returns-clause-served : goal.returns-clause-served
returns-clause-served g c =
    let start = desk_state (g.C.Clock.tells c.args.clock.now) (g.B.Book.state c.args.book.now) in
    let end = desk_state (g.C.Clock.tells c.serve.new.clock) (g.B.Book.state c.serve.new.book) in
    let served = served_so (g.R.Read.remaining c.args.input.now) (g.R.Read.remaining c.serve.new.reader) (g.W.Write.contents c.args.output.now) (g.W.Write.contents c.serve.new.writer) start end c.serve.result c.serve.ensures.ok c.serve.ensures.read c.serve.ensures.write
    (λ no. let same = c.serve.ensures.memory no in (ap g.R.Read.remaining same.0, ap g.W.Write.contents same.1)) in
    (c.serve.result, c.done_of.ensures, served)

pub returns-clause-memory : goal.returns-clause-memory
returns-clause-memory g c failed = c.serve.ensures.memory (only_memory c.serve.result (sym c.done_of.ensures ∙ failed))
