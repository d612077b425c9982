-- Paths into a value of JSON.
use Rattle.std.specs.Prelude.{◌≡◌, ℕ, Option, Some, option_and_then, List, [], ◌∷◌, ◌++◌, flat_map, decimal, ◌⊎◌}
use Rattle.json.specs.Json.{Json}
use Rattle.json.specs.Find.{get, at}
use Rattle.canary_provider.specs.declared.path.JsonPathStep.{JsonPathStep}
use Rattle.canary_provider.specs.declared.path.JsonPathStep.TheVariants.{Member, Item}

-- where a step leads
abbrev pub step_to : JsonPathStep → Json → Option Json
step_to (Member name) j = get name j
step_to (Item index) j = at index j

-- where all of them lead, one after another
abbrev pub found : List JsonPathStep → Json → Option Json
found [] j = Some j
found (step ∷ steps) j = option_and_then (found steps) (step_to step j)

-- how a step is spelled
abbrev pub spelled : JsonPathStep → List ℕ
spelled (Member name) = 46 ∷ name
spelled (Item index) = 91 ∷ decimal index ++ 93 ∷ []

-- what stands in the braces of `{$..}`, or nothing in an empty text
abbrev pub IsBraced : List ℕ → List ℕ → Type 0
IsBraced text inside =
    (text ≡ []) × (inside ≡ []) ⊎ (text ≡ 123 ∷ 36 ∷ inside ++ 125 ∷ [])

-- the text spells the steps
abbrev pub IsPathText : List ℕ → List JsonPathStep → Type 0
IsPathText text steps = IsBraced text (flat_map spelled steps)
