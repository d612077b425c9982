-- What a reader of JSON goes by: the members of an object, and what a value holds.
use Rattle.std.specs.Prelude.{ℕ, ℤ, List, [], ◌∷◌, Bool, true, false, ◌==◌, nat_le, IsTrue, refl, if◌then◌else◌, Option, Some, None, option_map, option_and_then, unwrap_or}
use Rattle.serde_json.specs.Data.{Data, null, Items, no_items, item, Members, no_members, member}
use Rattle.serde_json.specs.Events.{members_len}
use Rattle.serde_json.specs.Find.{get, as_str, as_array, as_object, as_number, as_u64, as_i64}
use Rattle.canary_base.specs.Names.{is_name, is_label}

-- ---- objects

infixl 4 ◌⊛◌
abbrev pub ◌⊛◌ : {A B : Type 0} → Option (A → B) → Option A → Option B
None ⊛ part = None
(Some whole) ⊛ part = option_map whole part

-- what the form gives of the member of that key, which may be null
abbrev pub at : {A : Type 0} → List ℕ → (Data → Option A) → Data → Option A
at key form value = option_and_then form (get key value)

abbrev pub if_given : {A : Type 0} → (Data → Option A) → Option Data → Option (Option A)
if_given form None = Some None
if_given form (Some value) = option_map Some (form value)

-- the same, or none if there is no member of that key
abbrev pub at_if : {A : Type 0} → List ℕ → (Data → Option A) → Data → Option (Option A)
at_if key form value = if_given form (get key value)

-- an object with so many members; each key is there once, so that no key is beside those asked for
abbrev pub is_object_of : ℕ → Data → Bool
is_object_of count value =
    unwrap_or (option_map (λ members. members_len members == count) (as_object value)) false

abbrev pub in_object_of : {A : Type 0} → ℕ → Data → Option A → Option A
in_object_of count value form = if is_object_of count value then form else None

-- the key and the value of the only member
abbrev pub only_member : Members → Option (List ℕ × Data)
only_member (member key value no_members) = Some (key, value)
only_member _ = None

-- what the form gives of an object of one member, by its key and its value
abbrev pub by_key : {A : Type 0} → (List ℕ → Data → Option A) → Data → Option A
by_key form value =
    option_and_then (λ m. form m.0 m.1) (option_and_then only_member (as_object value))

-- ---- what a value holds

abbrev pub some_if : (List ℕ → Bool) → List ℕ → Option (List ℕ)
some_if test text = if test text then Some text else None

-- a text that is a name
abbrev pub name_in : Data → Option (List ℕ)
name_in value = option_and_then (some_if is_name) (as_str value)

-- a text that is a label
abbrev pub label_in : Data → Option (List ℕ)
label_in value = option_and_then (some_if is_label) (as_str value)

abbrev pub up_to : ℕ → ℕ → Option ℕ
up_to greatest number = if nat_le number greatest then Some number else None

-- a number without point and exponent, from 0 up to this
abbrev pub number_up_to : ℕ → Data → Option ℕ
number_up_to greatest value =
    option_and_then (up_to greatest) (option_and_then as_u64 (as_number value))

-- a number without point and exponent that a word of 64 bits with a sign holds
abbrev pub signed_in : Data → Option ℤ
signed_in value = option_and_then as_i64 (as_number value)

-- null, or what the form gives
abbrev pub null_or : {A : Type 0} → (Data → Option A) → Data → Option (Option A)
null_or form null = Some None
null_or form value = option_map Some (form value)

-- ---- lists

abbrev pub each : {A : Type 0} → (Data → Option A) → Items → Option (List A)
each form no_items = Some []
each form (item value rest) =
    option_and_then (λ a. option_map (λ more. a ∷ more) (each form rest)) (form value)

-- a list, each item of which has the form
abbrev pub list_of : {A : Type 0} → (Data → Option A) → Data → Option (List A)
list_of form value = option_and_then (each form) (as_array value)

-- ---- limits

-- what is made if a limit is kept
abbrev pub where_kept : {A : Type 0} → (limit : Bool) → (IsTrue limit → A) → Option A
where_kept true make = Some (make refl)
where_kept false make = None
