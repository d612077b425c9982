use Rattle.std.proofs.Common.{sym, subst, List, ℕ, ◌∙◌}
use Rattle.std.specs.Prelude.{string_bytes}
use Rattle.std.proofs.lemmas.Result.{IfOk-weaker}
use Rattle.canary_argo.specs.declared.condition.Item.{Item}
use Rattle.canary_argo.specs.Tokens.{IsMadeOf}
use Rattle.canary_argo.specs.Translating.{IsTranslated}
use Rattle.canary_argo.proofs.SameValues.{translation as is_translation}
use Rattle.canary_argo.proofs.translation.translate.Goals as goal

pub returns : goal.returns
returns c =
    let tokens = c.in_ok-tokens.tokens.items in
    let items = c.in_ok-items.items.items in
    let made = subst (λ (r : List ℕ). IsMadeOf r tokens) c.as_bytes-text.ensures.value c.in_ok-tokens.ensures in
    let own = sym c.as_slice.ensures.value ∙ c.in_ok-items.ensures in
    IfOk-weaker c.placed.result _ _ (λ out h. is_translation c.args.text.now c.args.form tokens items (string_bytes out) made own (subst (λ (r : List Item). IsTranslated r c.args.form (string_bytes out)) c.as_slice-2.ensures.value h)) c.placed.ensures
