use Rattle.std.proofs.Common.{◌≡◌, ◌∙◌, sym, ap, arith}
use Rattle.std.specs.Prelude.{None}
use Rattle.matchit.specs.Seek.{first}
use Rattle.canary_wire.specs.Routes.{the_rows, target_of}
use Rattle.canary_wire.proofs.RouteLemmas.{some_found, none_found}
use Rattle.canary_wire.proofs.routes.parts_of.Goals as goal

pub returns-in-Ok-at : goal.returns-in-Ok-at
returns-in-Ok-at c =
    some_found c.args.path.now _ target_of c.split.result (λ k. omega (arith, c.type_inv.path k)) c.in-Ok.ensures.cases.1
    (ap (first the_rows) (sym c.in-Ok.ensures.cases.0) ∙ ap (λ rows. first rows c.in-Ok.text.now) (sym c.requires) ∙ c.in-Ok-at.ensures.found)
    c.split.ensures

pub returns-in-Err : goal.returns-in-Err
returns-in-Err c =
    let none : first the_rows c.args.path.now ≡ None = ap (first the_rows) (sym c.in-Ok.ensures.cases.0) ∙ ap (λ rows. first rows c.in-Ok.text.now) (sym c.requires) ∙ c.in-Err.ensures.missing in
    none_found c.args.path.now (λ k. omega (arith, c.type_inv.path k)) none
