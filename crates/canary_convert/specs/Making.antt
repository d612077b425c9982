-- What is made of manifests.
use Rattle.std.specs.Prelude.{◌≡◌, ◌<◌, ℕ, List, [], ◌∷◌, ◌++◌, length, Some}
use Rattle.serde_json.specs.Data.{string}
use Rattle.serde_json.specs.Read.{read}
use Rattle.canary_argo.specs.declared.form.Form.{Form}
use Rattle.canary_argo.specs.Translating.{IsTranslation}
use Rattle.canary_convert.specs.declared.conversion.Converted.{Converted}

-- if anything is found, nothing is made
abbrev pub IsAllOrNothing : Converted → Type 0
IsAllOrNothing c =
    0 < length c.findings.items
    → (c.templates.items ≡ []) × (c.services.items ≡ []) × (c.plan.items ≡ [])

-- as JSON this is the text
abbrev pub IsQuoted : List ℕ → List ℕ → Type 0
IsQuoted text json = read json ≡ Some (string text)

-- between quotes this is the text, as JSON
abbrev pub IsEscaped : List ℕ → List ℕ → Type 0
IsEscaped text inner = IsQuoted text (34 ∷ inner ++ 34 ∷ [])

-- as JSON this is a translation of the condition
abbrev pub IsQuotedTranslation : List ℕ → Form → List ℕ → Type 0
IsQuotedTranslation condition form json =
    (desk : List ℕ) × IsTranslation condition form desk × IsQuoted desk json
