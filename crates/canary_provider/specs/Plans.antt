-- What a plan asks of a provider.
use Rattle.std.specs.Prelude.{◌≡◌, ℕ, ◌<◌, Bool, true, false, not, ◌&&◌, ◌||◌, ◌==◌, nat_le, nat_lt, if◌then◌else◌, IsTrue, Option, Some, None, List, [], ◌∷◌, ◌++◌, length, take, position, unwrap_or, codes, decimal, ◌⊎◌, All}
use Rattle.std.specs.Char.{is_ascii_alphanumeric}
use Rattle.std.specs.List.{list_all, list_any}
use Rattle.std.specs.Str.{str_eq_ignore_ascii_case}
use Rattle.json.specs.Json.{Json, Items, no_items, item, document}
use Rattle.json.specs.Find.{get, is_null, as_str, as_array}
use Rattle.json.specs.Print.{print}
use Rattle.json.specs.Tree.{json_tokens}
use Rattle.percent_encoding.specs.Percent.{percent_encode, percent_decode}
use Rattle.canary_provider.specs.declared.fields.TheConstants.{USER_AGENT, ACCEPT, ENCODING, CONNECTION, CONTENT_TYPE, LENGTH}
use Rattle.canary_provider.specs.declared.target.TheConstants.{QUERY, API, VERSION}
use Rattle.canary_provider.specs.declared.target.Method.{Method}
use Rattle.canary_provider.specs.declared.target.Method.TheVariants as method
use Rattle.canary_provider.specs.declared.plan.ReplyFormat.{ReplyFormat}
use Rattle.canary_provider.specs.declared.plan.ReplyFormat.TheVariants.{Prometheus, Web}
use Rattle.canary_provider.specs.declared.plan.Provider.{Provider}
use Rattle.canary_provider.specs.Paths.{IsPathText}
use Rattle.canary_provider.specs.Answers.{text_at}

-- ---- addresses

abbrev pub is_authority_byte : ℕ → Bool
is_authority_byte byte =
    is_ascii_alphanumeric byte || byte == 46 || byte == 45 || byte == 95 || byte == 58
    || byte == 91 || byte == 93

abbrev pub is_authority : List ℕ → Bool
is_authority bytes = nat_lt 0 (length bytes) && list_all is_authority_byte bytes

-- visible, and no `#`
abbrev pub is_target_byte : ℕ → Bool
is_target_byte byte = nat_le 33 byte && nat_le byte 126 && not (byte == 35)

-- nothing, or a path
abbrev pub begins_target : List ℕ → Bool
begins_target [] = true
begins_target (byte ∷ rest) = byte == 47

abbrev pub is_target : List ℕ → Bool
is_target bytes = begins_target bytes && list_all is_target_byte bytes

abbrev pub IsAddress : List ℕ → List ℕ → List ℕ → Type 0
IsAddress text authority target =
    (text ≡ codes "http://" ++ authority ++ target)
    × IsTrue (is_authority authority) × IsTrue (is_target target)

-- the path below which an API stands, without a slash at its end
abbrev pub IsBase : List ℕ → List ℕ → Type 0
IsBase target base = (target ≡ base ++ 47 ∷ []) ⊎ (target ≡ base)

-- ---- first lines

abbrev pub method_text : Method → List ℕ
method_text method.Get = codes "GET"
method_text method.Post = codes "POST"
method_text method.Put = codes "PUT"

-- a query of Prometheus at one moment
abbrev pub IsQueryLine : List ℕ → List ℕ → List ℕ → Type 0
IsQueryLine target query line =
    (base : List ℕ) × IsBase target base
    × (line ≡ (codes "GET " ++ base) ++ (API.now ++ percent_encode QUERY query) ++ VERSION.now)

-- a target is a slash if the address has none
abbrev pub web_target : List ℕ → List ℕ
web_target [] = 47 ∷ []
web_target (byte ∷ rest) = byte ∷ rest

abbrev pub web_line : Method → List ℕ → List ℕ
web_line m target = (method_text m ++ codes " ") ++ web_target target ++ VERSION.now

-- ---- fields

-- the member of that key, if it is there and not null
abbrev pub not_null : Option Json → Option Json
not_null None = None
not_null (Some j) = if is_null j then None else Some j

abbrev pub given_at : List ℕ → Json → Option Json
given_at key j = not_null (get key j)

-- a byte of a token (RFC 9110, section 5.6.2)
abbrev pub is_token_mark : ℕ → Bool
is_token_mark byte = list_any (λ mark. mark == byte) (codes "!#$%&'*+-.^_`|~")

abbrev pub is_token_byte : ℕ → Bool
is_token_byte byte = is_ascii_alphanumeric byte || is_token_mark byte

abbrev pub is_token : List ℕ → Bool
is_token bytes = nat_lt 0 (length bytes) && list_all is_token_byte bytes

-- a name of a field that a plan may not have
abbrev pub is_own : List ℕ → Bool
is_own name =
    str_eq_ignore_ascii_case (codes "Host") name
    || str_eq_ignore_ascii_case (codes "Connection") name
    || str_eq_ignore_ascii_case (codes "Content-Length") name
    || str_eq_ignore_ascii_case (codes "Transfer-Encoding") name
    || str_eq_ignore_ascii_case (codes "Accept-Encoding") name
    || str_eq_ignore_ascii_case (codes "Keep-Alive") name
    || str_eq_ignore_ascii_case (codes "Expect") name
    || str_eq_ignore_ascii_case (codes "TE") name
    || str_eq_ignore_ascii_case (codes "Trailer") name
    || str_eq_ignore_ascii_case (codes "Upgrade") name

-- the field that an object with `key` and `value` asks for
abbrev pub IsHeader : Json → List ℕ → Type 0
IsHeader j line =
    (key : List ℕ) × (value : List ℕ)
    × (text_at (codes "key") j ≡ Some key) × (text_at (codes "value") j ≡ Some value)
    × IsTrue (is_token key) × (is_own key ≡ false) × (line ≡ key ++ codes ": " ++ value)

abbrev pub AreHeaders : Items → List (List ℕ) → Type 0
AreHeaders no_items [] = IsTrue true
AreHeaders no_items (line ∷ lines) = ⊥
AreHeaders (item j js) [] = ⊥
AreHeaders (item j js) (line ∷ lines) = IsHeader j line × AreHeaders js lines

abbrev pub AreHeadersIn : Option Items → List (List ℕ) → Type 0
AreHeadersIn None lines = ⊥
AreHeadersIn (Some js) lines = AreHeaders js lines

abbrev pub AreHeadersAt : Option Json → List (List ℕ) → Type 0
AreHeadersAt None lines = lines ≡ []
AreHeadersAt (Some j) lines = AreHeadersIn (as_array j) lines

abbrev pub is_colon : ℕ → Bool
is_colon byte = byte == 58

-- what stands before the first colon
abbrev pub name_of : List ℕ → List ℕ
name_of line = take (unwrap_or (position is_colon line) (length line)) line

abbrev pub has_name : List ℕ → List ℕ → Bool
has_name own line = str_eq_ignore_ascii_case (name_of line) (name_of own)

-- with a field of the agent's own, unless there is one of its name
abbrev pub with_own : List ℕ → List (List ℕ) → List (List ℕ)
with_own own lines = if list_any (has_name own) lines then lines else lines ++ own ∷ []

-- what each message has
unfoldable pub with_all_own : List (List ℕ) → List (List ℕ)
with_all_own lines =
    with_own CONNECTION.now (with_own ENCODING.now (with_own ACCEPT.now
    (with_own USER_AGENT.now lines)))

abbrev pub HasFields : Json → List (List ℕ) → Type 0
HasFields j fields =
    (headers : List (List ℕ)) × AreHeadersAt (given_at (codes "headers") j) headers
    × (fields ≡ with_all_own headers)

abbrev pub with_type : Bool → List (List ℕ) → List (List ℕ)
with_type true lines = with_own CONTENT_TYPE.now lines
with_type false lines = lines

abbrev pub with_length : Method → ℕ → List (List ℕ) → List (List ℕ)
with_length method.Get n lines = lines
with_length method.Post n lines = lines ++ (LENGTH.now ++ decimal n) ∷ []
with_length method.Put n lines = lines ++ (LENGTH.now ++ decimal n) ∷ []

-- the fields of a message to a service
abbrev pub IsWebFields : Json → Method → Bool → ℕ → List (List ℕ) → Type 0
IsWebFields j m is_json n all =
    (fields : List (List ℕ)) × HasFields j fields
    × (all ≡ with_length m n (with_type is_json fields))

-- ---- plans

-- what is asked of Prometheus
pub record IsPrometheus (j : Json) (p : Provider) : Type 0 where
  pub authority : List ℕ
  pub target : List ℕ
  pub query : List ℕ
  pub place : text_at (codes "address") j ≡ Some p.address
  pub parts : IsAddress p.address authority target
  pub asked : text_at (codes "query") j ≡ Some query
  pub first : IsQueryLine target query p.first
  pub host : p.host ≡ codes "Host: " ++ authority
  pub fields : HasFields j p.fields.items
  pub body : p.body.items ≡ []
  pub answer : p.answer ≡ Prometheus

-- the method, which is GET if the plan names none
abbrev pub IsMethod : Option Json → Method → Type 0
IsMethod None m = m ≡ method.Get
IsMethod (Some j) m = as_str j ≡ Some (method_text m)

-- the body: a text as it is, or JSON
abbrev pub IsBody : Option Json → Option Json → List ℕ → Bool → Type 0
IsBody None None body is_json = (body ≡ []) × (is_json ≡ false)
IsBody (Some j) None body is_json = (as_str j ≡ Some body) × (is_json ≡ false)
IsBody None (Some j) body is_json = (body ≡ print (json_tokens j)) × (is_json ≡ true)
IsBody (Some j) (Some k) body is_json = ⊥

-- the path at which the value stands
abbrev pub IsPathAt : Option Json → ReplyFormat → Type 0
IsPathAt o Prometheus = ⊥
IsPathAt None (Web path) = path.steps.items ≡ []
IsPathAt (Some j) (Web path) =
    (text : List ℕ) × (as_str j ≡ Some text) × IsPathText text path.steps.items

-- what is asked of a service that answers in JSON
pub record IsWeb (j : Json) (p : Provider) : Type 0 where
  pub authority : List ℕ
  pub target : List ℕ
  pub method : Method
  pub is_json : Bool
  pub place : text_at (codes "url") j ≡ Some p.address
  pub parts : IsAddress p.address authority target
  pub named : IsMethod (given_at (codes "method") j) method
  pub first : p.first ≡ web_line method target
  pub host : p.host ≡ codes "Host: " ++ authority
  pub body : IsBody (given_at (codes "body") j) (given_at (codes "jsonBody") j) p.body.items is_json
  pub fields : IsWebFields j method is_json (length p.body.items) p.fields.items
  pub answer : IsPathAt (given_at (codes "jsonPath") j) p.answer

-- what a plan of that kind asks
abbrev pub IsPlan : List ℕ → Json → Provider → Type 0
IsPlan kind j p =
    (kind ≡ codes "prometheus") × IsPrometheus j p ⊎ (kind ≡ codes "web") × IsWeb j p

abbrev pub IsPlanAt : List ℕ → Option Json → Provider → Type 0
IsPlanAt kind None p = ⊥
IsPlanAt kind (Some j) p = IsPlan kind j p

-- what a text of JSON asks, an object with the provider of that kind
abbrev pub IsAsked : List ℕ → List ℕ → Provider → Type 0
IsAsked kind text p =
    (j : Json) × (document text ≡ Some j) × IsPlanAt kind (given_at kind j) p

-- the law: what stands for a query reads as the query
abbrev pub QueryIsReadAgain : Type 0
QueryIsReadAgain =
    (query : List ℕ) → All (λ byte. byte < 256) query
    → percent_decode (percent_encode QUERY query) ≡ query
