-- The numbers of a value of JSON are numbers in its members, too.
use Rattle.std.proofs.Common.{◌≡◌, ℕ, Bool, true, false, List, Option, Some, None, refl, sym, ap, ◌∙◌, true≢false}
use Rattle.std.specs.Prelude.{is_some, if◌then◌else◌}
use Rattle.json.specs.Json.{Json}
use Rattle.json.specs.Find.{get, is_null}
use Rattle.json.specs.Tree.{HasNumbers}
use Rattle.json.proofs.Numbered.{HasNumbers-get}
use Rattle.canary_provider.specs.Plans.{given_at, not_null}

pub given_numbers : (key : List ℕ) (j part : Json) → HasNumbers j → Some part ≡ given_at key j → HasNumbers part
given_numbers key j part has is = of (get key j) refl is
  where
    chosen : (k : Json) (none : Bool) → get key j ≡ Some k → Some part ≡ (if none then None else Some k) → HasNumbers part
    chosen k true e found = absurd (true≢false (ap is_some found))
    chosen k false e found = HasNumbers-get key j part has (found ∙ sym e)

    of : (o : Option Json) → get key j ≡ o → Some part ≡ not_null o → HasNumbers part
    of None e found = absurd (true≢false (ap is_some found))
    of (Some k) e found = chosen k (is_null k) e found
