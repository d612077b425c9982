-- What a reply says was measured.
use Rattle.std.specs.Prelude.{◌≡◌, ℕ, Bool, true, false, ◌&&◌, nat_le, IsTrue, Option, Some, None, option_and_then, List, [], ◌∷◌, codes, ◌⊎◌}
use Rattle.std.specs.Str.{IsUtf8}
use Rattle.json.specs.Json.{Json, Items, no_items, item, document}
use Rattle.json.specs.Find.{get, at, is_null, as_str, as_number, as_array}
use Rattle.canary_decimal.specs.declared.reading.Reading.{Reading}
use Rattle.canary_decimal.specs.Spelling.{ReadsAs}
use Rattle.canary_decimal.specs.Texts.{number_of}
use Rattle.canary_measure.specs.declared.measured.Given.{Given}
use Rattle.canary_measure.specs.declared.measured.Given.TheVariants.{Read, Text as TextGiven, Null}
use Rattle.canary_measure.specs.declared.measured.Measured.{Measured}
use Rattle.canary_measure.specs.declared.measured.Measured.TheVariants.{One, Several}
use Rattle.canary_provider.specs.declared.values.Kind.{Kind}
use Rattle.canary_provider.specs.declared.values.Kind.TheVariants.{Plain, Sample}
use Rattle.canary_provider.specs.declared.plan.ReplyFormat.{ReplyFormat}
use Rattle.canary_provider.specs.declared.plan.ReplyFormat.TheVariants.{Prometheus, Web}
use Rattle.canary_provider.specs.declared.failure.ReplyFault.{ReplyFault}
use Rattle.canary_provider.specs.declared.failure.ReplyFault.TheVariants.{Memory, Has, Text}
use Rattle.canary_provider.specs.Paths.{found}

-- ---- a value

-- the value that a text says
abbrev pub IsRead : List ℕ → Given → Type 0
IsRead text given = (reading : Reading) × ReadsAs text reading × (given ≡ Read reading)

abbrev pub IsReadIn : Option (List ℕ) → Given → Type 0
IsReadIn None given = ⊥
IsReadIn (Some text) given = IsRead text given

-- a text as Go's ParseFloat and ParseInt read it
abbrev pub IsTextIn : Option (List ℕ) → Given → Type 0
IsTextIn None given = ⊥
IsTextIn (Some text) given = given ≡ TextGiven (number_of text)

-- a number is what its very text says
abbrev pub IsNumberOr : Option (List ℕ) → Option (List ℕ) → Given → Type 0
IsNumberOr None text given = IsTextIn text given
IsNumberOr (Some number) text given = IsRead number given

-- null is null, and else it is a number or a text
abbrev pub IsNullOr : Bool → Option (List ℕ) → Option (List ℕ) → Given → Type 0
IsNullOr true number text given = given ≡ Null
IsNullOr false number text given = IsNumberOr number text given

-- the text of the member of that key
abbrev pub text_at : List ℕ → Json → Option (List ℕ)
text_at key j = option_and_then as_str (get key j)

-- the text of the item at that index
abbrev pub text_item : ℕ → Json → Option (List ℕ)
text_item index j = option_and_then as_str (at index j)

-- the text of a sample of Prometheus, which has its moment before it
abbrev pub sample_text : Json → Option (List ℕ)
sample_text j = option_and_then (text_item 1) (get (codes "value") j)

-- the value of an item of a list
abbrev pub IsValue : Kind → Json → Given → Type 0
IsValue Plain j given = IsNullOr (is_null j) (as_number j) (as_str j) given
IsValue Sample j given = IsReadIn (sample_text j) given

-- the values of a list, in its order
abbrev pub AreValues : Kind → Items → List Given → Type 0
AreValues kind no_items [] = IsTrue true
AreValues kind no_items (given ∷ rest) = ⊥
AreValues kind (item j js) [] = ⊥
AreValues kind (item j js) (given ∷ rest) = IsValue kind j given × AreValues kind js rest

-- ---- a reply in JSON

-- several values of a list
abbrev pub IsList : Kind → Option Items → Measured → Type 0
IsList kind None m = ⊥
IsList kind (Some js) (One given) = ⊥
IsList kind (Some js) (Several values) = AreValues kind js values.items

-- one value
abbrev pub IsOne : Json → Measured → Type 0
IsOne j (One given) = IsValue Plain j given
IsOne j (Several values) = ⊥

-- what a value is: a list is several values, and any other is one
abbrev pub IsWhole : Option Items → Json → Measured → Type 0
IsWhole None j m = IsOne j m
IsWhole (Some js) j m = IsList Plain (Some js) m

-- what stands at the path
abbrev pub IsFound : Option Json → Measured → Type 0
IsFound None m = ⊥
IsFound (Some j) m = IsWhole (as_array j) j m

-- a scalar of Prometheus
abbrev pub IsScalar : Option (List ℕ) → Measured → Type 0
IsScalar text (One given) = IsReadIn text given
IsScalar text (Several values) = ⊥

-- the result of a query of Prometheus: a vector or a scalar
abbrev pub IsResult : Option (List ℕ) → Json → Measured → Type 0
IsResult kind j m =
    (kind ≡ Some (codes "vector")) × IsList Sample (as_array j) m
    ⊎ (kind ≡ Some (codes "scalar")) × IsScalar (text_item 1 j) m

-- an answer of Prometheus
abbrev pub IsAnswer : Json → Measured → Type 0
IsAnswer j m =
    (text_at (codes "status") j ≡ Some (codes "success"))
    × (d : Json) × (get (codes "data") j ≡ Some d)
    × (r : Json) × (get (codes "result") d ≡ Some r)
    × IsResult (text_at (codes "resultType") d) r m

-- what a value of JSON says was measured
abbrev pub Says : ReplyFormat → Json → Measured → Type 0
Says Prometheus j m = IsAnswer j m
Says (Web path) j m = IsFound (found path.steps.items j) m

-- ---- a reply

abbrev pub is_success : ℕ → Bool
is_success status = nat_le 200 status && nat_le status 299

-- what a reply of that status with that body says was measured
abbrev pub IsMeasured : ReplyFormat → ℕ → List ℕ → Measured → Type 0
IsMeasured answer status body m =
    IsTrue (is_success status) × IsUtf8 body
    × (j : Json) × (document body ≡ Some j) × Says answer j m

-- ---- faults

abbrev pub is_memory : ReplyFault → Bool
is_memory Memory = true
is_memory (Has what) = false
is_memory (Text what text) = false

-- a fault that is not of memory says that there is none
abbrev pub Refutes : {A : Type 0} → (A → Type 0) → ReplyFault → Type 0
Refutes {A = A} P fault = is_memory fault ≡ false → (m : A) → P m → ⊥
