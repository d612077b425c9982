-- What tokens spell, by the part of Argo Rollouts' conditions that is translated:
--     or      := and  { ("||" | "or") and }
--     and     := not  { ("&&" | "and") not }
--     not     := ("!" | "not") (not, but no comparison) | atom
--     atom    := "(" or ")" | look compare amount | amount compare look
--                | ("isNaN" | "isInf") "(" place ")"
--     look    := value | "(" value ")"
--     amount  := number | "(" number ")"
--     value   := place | ("asFloat" | "asInt") "(" place ")"
--                | "default" "(" "result" "," number ")"
--     place   := "result" | "result" "[" digits "]" | "len" "(" "result" ")"
-- Argo negates the operand that follows a `not`, and not a comparison. The relation splits the
-- whole text at each level.
use Rattle.std.specs.Prelude.{◌≡◌, List, [], ◌∷◌, ◌++◌, Bool, true, false, IsTrue, pos, if◌then◌else◌}
use Rattle.canary_condition.specs.Spelling.{Level, has_or, has_and, has_not}
use Rattle.canary_condition.specs.Spelling.Level.{AtOr, AtAnd, AtNot}
use Rattle.canary_argo.specs.declared.condition.Amount.{Amount}
use Rattle.canary_argo.specs.declared.condition.Function.{Function}
use Rattle.canary_argo.specs.declared.condition.Function.TheVariants.{Plain, AsFloat, AsInt, Default}
use Rattle.canary_argo.specs.declared.condition.Look.{Look}
use Rattle.canary_argo.specs.declared.condition.ResultPart.{ResultPart}
use Rattle.canary_argo.specs.declared.condition.ResultPart.TheVariants.{Whole, Item, Length}
use Rattle.canary_argo.specs.declared.condition.Test.{Test}
use Rattle.canary_argo.specs.declared.condition.ArgoToken.{ArgoToken}
use Rattle.canary_argo.specs.declared.condition.ArgoToken.TheVariants.{Compares, OrSign, AndSign, NotSign, Open, Close, OpenItem, CloseItem, ResultWord, AsFloatWord, AsIntWord, DefaultWord, LenWord, NaNWord, InfWord, Comma, Number}
use Rattle.canary_argo.specs.Trees.{Tree}
use Rattle.canary_argo.specs.Trees.Tree.{Or, And, Not, Bracket, Compare, IsNaN, IsInf}

abbrev pub place_tokens : ResultPart → List ArgoToken
place_tokens Whole = ResultWord ∷ []
place_tokens (Item i) =
    ResultWord ∷ OpenItem ∷ Number (record { whole = pos i; places = 0 }) ∷ CloseItem ∷ []
place_tokens Length = LenWord ∷ Open ∷ ResultWord ∷ Close ∷ []

abbrev pub value_tokens : Function → ResultPart → List ArgoToken
value_tokens Plain place = place_tokens place
value_tokens AsFloat place = AsFloatWord ∷ Open ∷ place_tokens place ++ Close ∷ []
value_tokens AsInt place = AsIntWord ∷ Open ∷ place_tokens place ++ Close ∷ []
value_tokens (Default d) place =
    DefaultWord ∷ Open ∷ place_tokens place ++ Comma ∷ Number d ∷ Close ∷ []

-- the tokens, in brackets or not
abbrev pub bracketed : Bool → List ArgoToken → List ArgoToken
bracketed false ts = ts
bracketed true ts = Open ∷ ts ++ Close ∷ []

abbrev pub look_tokens : Look → List ArgoToken
look_tokens v = bracketed v.bracketed (value_tokens v.function v.place)

abbrev pub amount_tokens : Amount → List ArgoToken
amount_tokens n = bracketed n.bracketed (Number n.number ∷ [])

abbrev pub test_tokens : Test → List ArgoToken
test_tokens t =
    if t.turned then amount_tokens t.amount ++ Compares t.comparison ∷ look_tokens t.look
    else look_tokens t.look ++ Compares t.comparison ∷ amount_tokens t.amount

abbrev pub nan_tokens : ResultPart → List ArgoToken
nan_tokens place = NaNWord ∷ Open ∷ place_tokens place ++ Close ∷ []

abbrev pub inf_tokens : ResultPart → List ArgoToken
inf_tokens place = InfWord ∷ Open ∷ place_tokens place ++ Close ∷ []

-- not a comparison
abbrev pub IsClosed : Tree → Type 0
IsClosed (Compare test) = ⊥
IsClosed tree = Unit {0}

-- the tokens spell the tree at the level
abbrev pub Spells : Tree → Level → List ArgoToken → Type 0
Spells (Or a b) level ts =
    IsTrue (has_or level) × (front : List ArgoToken) × (rest : List ArgoToken)
    × (ts ≡ front ++ OrSign ∷ rest) × Spells a AtOr front × Spells b AtAnd rest
Spells (And a b) level ts =
    IsTrue (has_and level) × (front : List ArgoToken) × (rest : List ArgoToken)
    × (ts ≡ front ++ AndSign ∷ rest) × Spells a AtAnd front × Spells b AtNot rest
Spells (Not a) level ts =
    IsTrue (has_not level) × (rest : List ArgoToken) × (ts ≡ NotSign ∷ rest) × IsClosed a
    × Spells a AtNot rest
Spells (Bracket a) level ts =
    (inside : List ArgoToken) × (ts ≡ Open ∷ inside ++ Close ∷ []) × Spells a AtOr inside
Spells (Compare test) level ts = ts ≡ test_tokens test
Spells (IsNaN place) level ts = ts ≡ nan_tokens place
Spells (IsInf place) level ts = ts ≡ inf_tokens place

-- the text is this condition
abbrev pub IsArgo : List ArgoToken → Tree → Type 0
IsArgo ts tree = Spells tree AtOr ts
