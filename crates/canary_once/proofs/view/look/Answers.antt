use Rattle.std.proofs.Common.{sym, ap, ◌∙◌, rules}
use Rattle.canary_release.specs.Stored.{stored_service}
use Rattle.canary_once.specs.Contents.{Contents}
use Rattle.canary_once.proofs.ViewsPassed.{looked}
use Rattle.canary_once.proofs.view.look.Goals as goal

pub returns-in_ok-passed-in-Some : goal.returns-in_ok-passed-in-Some
returns-in_ok-passed-in-Some g c =
    let s = c.show.ensures in
    let f = c.service-2.ensures in
    let old : Contents = (g.B.Book.state c.args.book.now).contents in
    let mid : Contents = (g.B.Book.state c.service-2.new.self).contents in
    let new : Contents = (g.B.Book.state c.show.new.book).contents in
    record {
      honest = λ i. f.honest (s.honest i);
      in_memory = λ m. s.in_memory (f.in_memory m);
      lawful = λ i. f.lawful (s.honest i);
      ok =
          λ i. looked c.watching.ensures c.changes.ensures c.time.ensures c.quiet.ensures old mid new c.args.moment c.args.query.now c.in-Some.service c.in_ok-passed-in-Some.passed c.show.result
          (sym c.in-Some.is ∙ c.in_ok-service.ensures.value_of_old (s.honest i) ∙ ap (stored_service old.desk) c.service.ensures) c.in_ok-passed-in-Some.ensures (f.same (s.honest i)) (s.same i) (s.ok i);
      err = search rules;
      sure = s.sure ∙ f.sure;
      fault = search rules;
    }
