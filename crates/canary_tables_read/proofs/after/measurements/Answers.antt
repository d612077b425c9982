use Rattle.std.proofs.Common.{◌≡◌, ◌∙◌, ℤ, Option, Some, ap, subst, take, to_z, of_z, w64, rules}
use Rattle.std.specs.Prelude.{IfSome}
use Rattle.std.proofs.lemmas.Result.{IfOk-weaker}
use Rattle.canary_tables_read.specs.Places.{IsMark}
use Rattle.canary_tables_read.proofs.FoundPlaces.{above_mark, is_page}
use Rattle.canary_tables_read.proofs.after.measurements.Goals as goal

pub returns-in-Some-clause-found : goal.returns-in-Some-clause-found
returns-in-Some-clause-found g c usable t has marked =
    let db = (g.Q.Reader.shows c.args.conn.now).now in
    let back : to_z w64 (of_z w64 c.in-Some.place) ≡ c.in-Some.place = search rules in
    let known : c.args.place ≡ Some c.in-Some.place = search rules in
    let mark : IsMark db c.args.service.now c.args.from c.in-Some.place = subst (λ (o : Option ℤ). IfSome o (IsMark db c.args.service.now c.args.from)) known marked in
    IfOk-weaker c.after.result _ _
    (λ page is. is_page db t c.args.service.now c.args.from c.args.most page has (is ∙ ap (take c.args.most) (above_mark db t c.args.service.now c.args.from c.in-Some.place has mark)))
    (rw back at (c.after.ensures.found usable t has))

pub returns-in-None-clause-found : goal.returns-in-None-clause-found
returns-in-None-clause-found g c usable t has marked =
    IfOk-weaker c.from_index.result _ _
    (λ page is. is_page (g.Q.Reader.shows c.args.conn.now).now t c.args.service.now c.args.from c.args.most page has is)
    (c.from_index.ensures.found usable t has)
