use Rattle.std.proofs.Common.{◌≡◌, ◌∙◌, ◌∷◌, [], ap, sym, subst}
use Rattle.std.specs.Prelude.{IfOk}
use Rattle.std.specs.Option.{option_copied}
use Rattle.canary_release.specs.Desks.{newest}
use Rattle.canary_once.specs.Contents.{known_named}
use Rattle.canary_programs.proofs.Again.{again_none, again_some, found_alone}
use Rattle.canary_programs.proofs.succession.template_again.Goals as goal

pub returns-in-Some-clause-made : goal.returns-in-Some-clause-made
returns-in-Some-clause-made g c h =
    let desk = (g.B.Book.state c.args.book.now).contents.desk in
    again_some desk c.args.name.now c.in-Some.template.now c.in_ok-copy-in-Some.field-0 c.in_ok-copy-in-Some.ensures
    (ap option_copied (sym c.in-Some.is) ∙ c.get.ensures ∙ found_alone (newest desk.templates) c.args.name.now c.in_ok-found.found (subst (λ r. IfOk r (λ x. x ≡ known_named (newest desk.templates) (c.args.name.now ∷ []))) c.in_ok-found.was (c.templates.ensures.value_of_old h)))

pub returns-clause-made : goal.returns-clause-made
returns-clause-made g c h =
    let desk = (g.B.Book.state c.args.book.now).contents.desk in
    again_none desk c.args.name.now
    (ap option_copied (sym c.in-None.is) ∙ c.get.ensures ∙ found_alone (newest desk.templates) c.args.name.now c.in_ok-found.found (subst (λ r. IfOk r (λ x. x ≡ known_named (newest desk.templates) (c.args.name.now ∷ []))) c.in_ok-found.was (c.templates.ensures.value_of_old h)))
