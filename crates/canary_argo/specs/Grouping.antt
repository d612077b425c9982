-- Tokens in groups: a comparison is one group, each other token that may stand between comparisons
-- is one.
use Rattle.std.specs.Prelude.{◌≡◌, ◌==◌, ℕ, Bool, true, false, ◌&&◌, if◌then◌else◌, IsTrue, List, [], ◌∷◌, ◌++◌, Option, Some, None, option_map, ℤ, pos, negsuc}
use Rattle.std.specs.List.{flat_map}
use Rattle.canary_condition.specs.declared.condition.Comparison.{Comparison}
use Rattle.canary_condition.specs.Spelling.{Level, has_or, has_and, has_not}
use Rattle.canary_condition.specs.Spelling.Level.{AtOr, AtAnd, AtNot}
use Rattle.canary_decimal.specs.declared.decimal.ShortDecimal.{ShortDecimal}
use Rattle.canary_argo.specs.declared.condition.Item.{Item}
use Rattle.canary_argo.specs.declared.condition.Item.TheVariants.{Or as OrItem, And as AndItem, Not as NotItem, Open as OpenGroup, Close as CloseGroup, Compare as CompareItem, NaN as NaNItem, Inf as InfItem}
use Rattle.canary_argo.specs.declared.condition.Amount.{Amount}
use Rattle.canary_argo.specs.declared.condition.Function.{Function}
use Rattle.canary_argo.specs.declared.condition.Function.TheVariants.{Plain, AsFloat, AsInt, Default}
use Rattle.canary_argo.specs.declared.condition.Look.{Look}
use Rattle.canary_argo.specs.declared.condition.ResultPart.{ResultPart}
use Rattle.canary_argo.specs.declared.condition.ResultPart.TheVariants.{Whole, Item as ItemPlace, Length}
use Rattle.canary_argo.specs.declared.condition.Test.{Test}
use Rattle.canary_argo.specs.declared.condition.ArgoToken.{ArgoToken}
use Rattle.canary_argo.specs.declared.condition.ArgoToken.TheVariants.{Compares, OrSign, AndSign, NotSign, Open, Close, OpenItem, CloseItem, ResultWord, AsFloatWord, AsIntWord, DefaultWord, LenWord, NaNWord, InfWord, Comma, Number}
use Rattle.canary_argo.specs.Spelling.{test_tokens, nan_tokens, inf_tokens, IsClosed}
use Rattle.canary_argo.specs.Trees.{Tree}
use Rattle.canary_argo.specs.Trees.Tree.{Or, And, Not, Bracket, Compare, IsNaN, IsInf}

abbrev pub natural : ℤ → Option ℕ
natural (pos n) = Some n
natural (negsuc n) = None

-- the place that a number names
abbrev pub index_of : ShortDecimal → Option ℕ
index_of d = if d.places == 0 then natural d.whole else None

abbrev pub place_at : List ArgoToken → Option ℕ → List ArgoToken → ResultPart × List ArgoToken
place_at rest (Some i) ts = (ItemPlace i, ts)
place_at rest None ts = (Whole, rest)

-- the place that `result` begins, and what follows it
abbrev pub after_result : List ArgoToken → ResultPart × List ArgoToken
after_result (OpenItem ∷ Number d ∷ CloseItem ∷ ts) =
    place_at (OpenItem ∷ Number d ∷ CloseItem ∷ ts) (index_of d) ts
after_result ts = (Whole, ts)

-- a value, and what follows it
abbrev pub plain_look : Function → ResultPart → Look
plain_look function place = record { place = place; function = function; bracketed = false }

abbrev pub closed : Function → ResultPart → List ArgoToken → Option (Look × List ArgoToken)
closed function place (Close ∷ ts) = Some (plain_look function place, ts)
closed function place ts = None

abbrev pub defaulted : List ArgoToken → Option (Look × List ArgoToken)
defaulted (Comma ∷ Number d ∷ Close ∷ ts) = Some (plain_look (Default d) Whole, ts)
defaulted ts = None

abbrev pub front_value : List ArgoToken → Option (Look × List ArgoToken)
front_value (ResultWord ∷ ts) = Some (plain_look Plain (after_result ts).0, (after_result ts).1)
front_value (AsFloatWord ∷ Open ∷ ResultWord ∷ ts) =
    closed AsFloat (after_result ts).0 (after_result ts).1
front_value (AsIntWord ∷ Open ∷ ResultWord ∷ ts) =
    closed AsInt (after_result ts).0 (after_result ts).1
front_value (DefaultWord ∷ Open ∷ ResultWord ∷ ts) = defaulted ts
front_value (LenWord ∷ Open ∷ ResultWord ∷ Close ∷ ts) = Some (plain_look Plain Length, ts)
front_value ts = None

-- the same in brackets
abbrev pub within : Look → List ArgoToken → Option (Look × List ArgoToken)
within v (Close ∷ ts) =
    Some (record { place = v.place; function = v.function; bracketed = true }, ts)
within v ts = None

abbrev pub in_brackets : Option (Look × List ArgoToken) → Option (Look × List ArgoToken)
in_brackets None = None
in_brackets (Some v) = within v.0 v.1

abbrev pub front_look : List ArgoToken → Option (Look × List ArgoToken)
front_look (Open ∷ ts) = in_brackets (front_value ts)
front_look ts = front_value ts

-- a number, and what follows it
abbrev pub amount_of : Bool → ShortDecimal → Amount
amount_of brackets d = record { number = d; bracketed = brackets }

abbrev pub front_amount : List ArgoToken → Option (Amount × List ArgoToken)
front_amount (Number d ∷ ts) = Some (amount_of false d, ts)
front_amount (Open ∷ Number d ∷ Close ∷ ts) = Some (amount_of true d, ts)
front_amount ts = None

abbrev pub made : Bool → Look → Comparison → Amount → Test
made turned v c n = record { look = v; comparison = c; amount = n; turned = turned }

-- the comparison of a value with the number that follows its sign
abbrev pub with_amount : Look → Comparison → Option (Amount × List ArgoToken)
    → Option (Test × List ArgoToken)
with_amount v c None = None
with_amount v c (Some n) = Some (made false v c n.0, n.1)

abbrev pub after_look : Look → List ArgoToken → Option (Test × List ArgoToken)
after_look v (Compares c ∷ ts) = with_amount v c (front_amount ts)
after_look v ts = None

-- the comparison of a number with the value that follows its sign
abbrev pub with_look : Amount → Comparison → Option (Look × List ArgoToken)
    → Option (Test × List ArgoToken)
with_look n c None = None
with_look n c (Some v) = Some (made true v.0 c n, v.1)

abbrev pub after_amount : Amount → List ArgoToken → Option (Test × List ArgoToken)
after_amount n (Compares c ∷ ts) = with_look n c (front_look ts)
after_amount n ts = None

abbrev pub look_first : Option (Look × List ArgoToken) → Option (Test × List ArgoToken)
look_first None = None
look_first (Some v) = after_look v.0 v.1

abbrev pub amount_first : Option (Amount × List ArgoToken) → List ArgoToken
    → Option (Test × List ArgoToken)
amount_first None ts = look_first (front_look ts)
amount_first (Some n) ts = after_amount n.0 n.1

-- the comparison at the front, and what follows it
abbrev pub front_test : List ArgoToken → Option (Test × List ArgoToken)
front_test ts = amount_first (front_amount ts) ts

-- `isNaN` of a place, and what follows it
abbrev pub nan_item : ResultPart → List ArgoToken → Option (Item × List ArgoToken)
nan_item place (Close ∷ ts) = Some (NaNItem place, ts)
nan_item place ts = None

-- `isInf` of a place, and what follows it
abbrev pub inf_item : ResultPart → List ArgoToken → Option (Item × List ArgoToken)
inf_item place (Close ∷ ts) = Some (InfItem place, ts)
inf_item place ts = None

-- a comparison that begins with a bracket, or the bracket alone
abbrev pub test_or_open : Option (Test × List ArgoToken) → List ArgoToken
    → Option (Item × List ArgoToken)
test_or_open (Some t) ts = Some (CompareItem t.0, t.1)
test_or_open None ts = Some (OpenGroup, ts)

-- the group at the front, and what follows it
abbrev pub front_item : List ArgoToken → Option (Item × List ArgoToken)
front_item (OrSign ∷ ts) = Some (OrItem, ts)
front_item (AndSign ∷ ts) = Some (AndItem, ts)
front_item (NotSign ∷ ts) = Some (NotItem, ts)
front_item (Open ∷ ts) = test_or_open (front_test (Open ∷ ts)) ts
front_item (Close ∷ ts) = Some (CloseGroup, ts)
front_item (NaNWord ∷ Open ∷ ResultWord ∷ ts) = nan_item (after_result ts).0 (after_result ts).1
front_item (InfWord ∷ Open ∷ ResultWord ∷ ts) = inf_item (after_result ts).0 (after_result ts).1
front_item ts = option_map (λ (r : Test × List ArgoToken). (CompareItem r.0, r.1)) (front_test ts)

abbrev pub item_tokens : Item → List ArgoToken
item_tokens OrItem = OrSign ∷ []
item_tokens AndItem = AndSign ∷ []
item_tokens NotItem = NotSign ∷ []
item_tokens OpenGroup = Open ∷ []
item_tokens CloseGroup = Close ∷ []
item_tokens (CompareItem test) = test_tokens test
item_tokens (NaNItem place) = nan_tokens place
item_tokens (InfItem place) = inf_tokens place

abbrev pub all_tokens : List Item → List ArgoToken
all_tokens items = flat_map item_tokens items

-- no comparison follows a `not` directly
abbrev pub is_not : Item → Bool
is_not NotItem = true
is_not item = false

abbrev pub is_test : Item → Bool
is_test (CompareItem test) = true
is_test item = false

abbrev pub are_closed : Bool → List Item → Bool
are_closed after_not [] = true
are_closed after_not (x ∷ xs) =
    if after_not && is_test x then false else are_closed (is_not x) xs

-- the groups spell the tree at the level
abbrev pub SpellsItems : Tree → Level → List Item → Type 0
SpellsItems (Or a b) level items =
    IsTrue (has_or level) × (front : List Item) × (rest : List Item)
    × (items ≡ front ++ OrItem ∷ rest) × SpellsItems a AtOr front × SpellsItems b AtAnd rest
SpellsItems (And a b) level items =
    IsTrue (has_and level) × (front : List Item) × (rest : List Item)
    × (items ≡ front ++ AndItem ∷ rest) × SpellsItems a AtAnd front × SpellsItems b AtNot rest
SpellsItems (Not a) level items =
    IsTrue (has_not level) × (rest : List Item) × (items ≡ NotItem ∷ rest) × IsClosed a
    × SpellsItems a AtNot rest
SpellsItems (Bracket a) level items =
    (inside : List Item) × (items ≡ OpenGroup ∷ inside ++ CloseGroup ∷ [])
    × SpellsItems a AtOr inside
SpellsItems (Compare test) level items = items ≡ CompareItem test ∷ []
SpellsItems (IsNaN place) level items = items ≡ NaNItem place ∷ []
SpellsItems (IsInf place) level items = items ≡ InfItem place ∷ []
