use Rattle.std.proofs.Common.{rules}
use Rattle.canary_plan.specs.Plans.{Templates}
use Rattle.canary_release.specs.Desks.{newest}
use Rattle.canary_once.proofs.TemplateLemmas.{agree_then}
use Rattle.canary_once.proofs.post.decide_on.Goals as goal

pub returns : goal.returns
returns g c =
    let known : Templates = newest (g.B.Book.state c.args.book.now).contents.desk.templates in
    record {
      honest = search rules;
      in_memory = search rules;
      lawful = search rules;
      same = search rules;
      step = λ i. c.in_ok-decide.ensures (g.B.Book.state c.args.book.now).contents.desk (agree_then _ known c.as_slice.result.now _ (search rules) (search rules)) (search rules);
      sure = search rules;
      fault = search rules;
    }
