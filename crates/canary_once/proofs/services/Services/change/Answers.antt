use Rattle.std.proofs.Common.{◌≡◌, ℕ, List, Some, sym, ap, ◌∙◌, subst, rules}
use Rattle.std.proofs.lemmas.Result.{on_ok_weaker, on_err_weaker}
use Rattle.std.proofs.lemmas.Map.Steps.{set_value_same}
use Rattle.std.specs.Prelude.{Option, None}
use Rattle.std.specs.FinMap as map
use Rattle.canary_release.specs.Desks.{ModelService, after}
use Rattle.canary_once.specs.InMemory.{IsKeptAs}
use Rattle.canary_once.proofs.Named.{get_name, one_set}
use Rattle.canary_once.proofs.services.Services.change.Goals as goal
use Rattle.canary_once.proofs.services.Services.change.Goals.{In-Some, In_default}

there : (c : In-Some) → map.get c.args.self.now c.args.name ≡ Some c.in-Some.kept.now
there c = ap (λ m. map.get m c.args.name) (sym c.self.view_is) ∙ get_name c.self.inside.services.entries c.args.name ∙ sym c.in-Some.ensures.value

none_there : (c : In_default) → map.get c.args.self.now c.args.name ≡ None
none_there c = ap (λ m. map.get m c.args.name) (sym c.self.view_is) ∙ get_name c.self.inside.services.entries c.args.name ∙ sym c.in_default.ensures.value

pub change-requires : goal.change-requires
change-requires c = subst (λ (o : Option ModelService). IsKeptAs o c.args.service c.args.effects) (there (goal.at.change-requires c).In-Some) c.requires

pub new-requires : goal.new-requires
new-requires c = subst (λ (o : Option ModelService). IsKeptAs o c.args.service c.args.effects) (none_there (goal.at.new-requires c).In_default) c.requires

pub returns-in-Some-clause-ok : goal.returns-in-Some-clause-ok
returns-in-Some-clause-ok c =
    let w = c.change.new.self in
    on_ok_weaker c.change.result
    (λ e.
    one_set c.self.inside.services.entries (c.get_mut.follows.lender w).entries c.args.name w ((c.get_mut.follows.holds w).3 (search rules)).0
    ∙ ap (λ m. map.insert m c.args.name w) c.self.view_is
    ∙ ap (map.insert c.args.self.now c.args.name) (e ∙ ap (λ (o : Option ModelService). after o c.args.service.service c.args.effects) (sym (there (goal.at.returns-in-Some-clause-ok c).In-Some))))
    c.change.ensures.ok

pub returns-in-Some-clause-err : goal.returns-in-Some-clause-err
returns-in-Some-clause-err c =
    let w = c.change.new.self in
    on_err_weaker c.change.result
    (λ e. ap map.from_entries ((c.get_mut.follows.holds w).0 ∙ set_value_same _ c.self.inside.services.entries w (sym c.in-Some.ensures.value ∙ ap Some (sym e))) ∙ c.self.view_is)
    c.change.ensures.err

pub returns-clause-ok : goal.returns-clause-ok
returns-clause-ok c =
    let kept = c.in_ok-kept.kept in
    one_set c.get_mut.follows.lender-at-none.entries c.insert.new.self.entries c.args.name kept c.in_ok-insert.ensures.updates.0
    ∙ ap (λ (es : List (List ℕ × ModelService)). map.insert (map.from_entries es) c.args.name kept) (λ i. (c.get_mut.follows.holds-at-none i).entries)
    ∙ ap (λ m. map.insert m c.args.name kept) c.self.view_is
    ∙ ap (map.insert c.args.self.now c.args.name) (c.in_ok-kept.ensures ∙ ap (λ (o : Option ModelService). after o c.args.service.service c.args.effects) (sym (none_there (goal.at.returns-clause-ok c).In_default)))
