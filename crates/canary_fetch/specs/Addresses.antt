-- The address of a provider: `http://HOST`, `http://HOST:PORT`, or either with `/PATH`.
use Rattle.std.specs.Prelude.{◌≡◌, ℕ, ◌<◌, ◌⊎◌, Bool, true, false, ◌&&◌, ◌||◌, IsTrue, List, [], ◌∷◌, ◌++◌, length, nat_lt, ◌==◌, codes}
use Rattle.std.specs.List.{list_all}
use Rattle.std.specs.Char.{is_ascii_digit, is_ascii_hexdigit, is_ascii_alphanumeric}
use Rattle.std.specs.Str.Parse.{digits_value}

-- ---- the host

-- a letter, a digit, `-`, `.` or `_`
abbrev pub is_name_byte : ℕ → Bool
is_name_byte b = is_ascii_alphanumeric b || (b == 45 || (b == 46 || b == 95))

-- a digit of base 16, `:` or `.`
abbrev pub is_number_byte : ℕ → Bool
is_number_byte b = is_ascii_hexdigit b || (b == 58 || b == 46)

abbrev pub is_name : List ℕ → Bool
is_name host = nat_lt 0 (length host) && list_all is_name_byte host

abbrev pub is_number : List ℕ → Bool
is_number host = nat_lt 0 (length host) && list_all is_number_byte host

-- a number of IPv6 stands in brackets
abbrev pub host_text : Bool → List ℕ → List ℕ
host_text true host = 91 ∷ (host ++ 93 ∷ [])
host_text false host = host

abbrev pub is_host : Bool → List ℕ → Bool
is_host true host = is_number host
is_host false host = is_name host

-- ---- the port

-- digits alone, of a number above 0
pub record IsPort (digits : List ℕ) (port : ℕ) : Type 0 where
  pub decimal : IsTrue (list_all is_ascii_digit digits)
  pub value : digits_value 10 digits ≡ port
  pub some : 0 < port

-- nothing for 80, or `:` and the port
abbrev pub IsPortText : List ℕ → ℕ → Type 0
IsPortText text port =
    ((text ≡ []) × (port ≡ 80)) ⊎ ((digits : List ℕ) × (text ≡ 58 ∷ digits) × IsPort digits port)

-- ---- the whole

-- the host, and what may follow it
pub record IsSite (text host : List ℕ) (port : ℕ) : Type 0 where
  pub brackets : Bool
  pub behind : List ℕ
  pub spelled : text ≡ host_text brackets host ++ behind
  pub clean : IsTrue (is_host brackets host)
  pub ends : IsPortText behind port

-- what stands before `/` and after it; all of it, and nothing, if there is none
abbrev pub IsCut : List ℕ → List ℕ → List ℕ → Type 0
IsCut text site path = (text ≡ site ++ 47 ∷ path) ⊎ ((text ≡ site) × (path ≡ []))

pub record IsAddress (text host : List ℕ) (port : ℕ) (path : List ℕ) : Type 0 where
  pub rest : List ℕ
  pub site : List ℕ
  pub spelled : text ≡ codes "http://" ++ rest
  pub cut : IsCut rest site path
  pub is_site : IsSite site host port
