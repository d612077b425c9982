-- Texts without marks, one after another.
use Rattle.std.proofs.Common.{◌&&◌, ℕ, List, ◌++◌, sym, ap₂, ◌∙◌}
use Rattle.std.proofs.lemmas.List.Folds.{list_all-append}
use Rattle.std.proofs.lemmas.Str.{encodes-append}
use Rattle.canary_shown.specs.Showing.{is_plain}
use Rattle.canary_provider.specs.Texts.{IsShown}

pub both_shown : (a b : List ℕ) → IsShown a → IsShown b → IsShown (a ++ b)
both_shown a b p q = (
  p.0 ++ q.0,
  ap₂ (λ x y. x ++ y) p.1 q.1 ∙ sym (encodes-append p.0 q.0),
  list_all-append is_plain p.0 q.0 ∙ ap₂ (λ x y. x && y) p.2 q.2,
)
