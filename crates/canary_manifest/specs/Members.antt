-- The members of a manifest, as `kubectl get -o json` prints it: a null member is as if absent, and
-- a member that no form asks for is passed over.
use Rattle.std.specs.Prelude.{ℕ, List, [], ◌∷◌, length, Bool, true, false, not, ◌&&◌, ◌||◌, nat_lt, ◌==◌, Option, Some, None, option_map, option_and_then, is_some, unwrap_or, if◌then◌else◌}
use Rattle.std.specs.Option.{option_or}
use Rattle.std.specs.List.{list_all}
use Rattle.std.specs.Char.{is_ascii_digit}
use Rattle.std.specs.Str.{bytes_eq}
use Rattle.std.specs.Str.Parse.{digits_value}
use Rattle.canary_base.specs.Durations.{seconds_of}
use Rattle.serde_json.specs.Data.{Num, unsigned, negative, float, Data, null, Items, no_items, item}
use Rattle.serde_json.specs.Events.{items_len}
use Rattle.serde_json.specs.Find.{get, as_str, as_array, as_object, as_number, as_bool}
use Rattle.canary_canonical.specs.Forms.{some_if, up_to, number_up_to}

-- ---- members

abbrev pub unless_null : Data → Option Data
unless_null null = None
unless_null value = Some value

-- the member of that key, if it is there and not null
abbrev pub member_of : List ℕ → Data → Option Data
member_of key value = option_and_then unless_null (get key value)

-- what the form gives of the member of that key, which has to be there
abbrev pub in_member : {A : Type 0} → List ℕ → (Data → Option A) → Data → Option A
in_member key form value = option_and_then form (member_of key value)

abbrev pub form_or : {A : Type 0} → A → (Data → Option A) → Option Data → Option A
form_or absent form None = Some absent
form_or absent form (Some value) = form value

-- what the form gives of the member of that key, or this if it is absent
abbrev pub in_member_or : {A : Type 0} → List ℕ → A → (Data → Option A) → Data → Option A
in_member_or key absent form value = form_or absent form (member_of key value)

-- what the form gives of an object
abbrev pub in_object : {A : Type 0} → (Data → Option A) → Data → Option A
in_object form value = if is_some (as_object value) then form value else None

-- the member of that key is there and passes the test
abbrev pub has : List ℕ → (Data → Bool) → Data → Bool
has key test value = unwrap_or (option_map test (member_of key value)) false

-- ---- what a member holds

-- one digit or more
abbrev pub is_digits : List ℕ → Bool
is_digits text = nat_lt 0 (length text) && list_all is_ascii_digit text

-- the number that a text of digits spells, up to this
abbrev pub digits_up_to : ℕ → List ℕ → Option ℕ
digits_up_to greatest text =
    option_and_then (λ digits. up_to greatest (digits_value 10 digits)) (some_if is_digits text)

-- a whole number or a text of digits, up to this
abbrev pub count_up_to : ℕ → Data → Option ℕ
count_up_to greatest value =
    option_or (number_up_to greatest value) (option_and_then (digits_up_to greatest) (as_str value))

-- a limit of a metric
abbrev pub limit_in : Data → Option ℕ
limit_in = count_up_to 1000000

abbrev pub unless_zero : ℕ → Option ℕ
unless_zero n = if n == 0 then None else Some n

-- the count of a metric; 0 is as if absent
abbrev pub count_in : Data → Option (Option ℕ)
count_in value = option_map unless_zero (limit_in value)

abbrev pub unless_empty : List ℕ → Option (List ℕ)
unless_empty [] = None
unless_empty (b ∷ bs) = Some (b ∷ bs)

-- a condition; an empty one is as if absent
abbrev pub condition_in : Data → Option (Option (List ℕ))
condition_in value = option_map unless_empty (as_str value)

abbrev pub duration_of : List ℕ → Option (Option ℕ)
duration_of [] = Some None
duration_of (b ∷ bs) = option_map Some (seconds_of (b ∷ bs))

-- the text of a duration; an empty one is as if absent
abbrev pub duration_in : Data → Option (Option ℕ)
duration_in value = option_and_then duration_of (as_str value)

-- the same, but what is absent is 0
abbrev pub delay_in : Data → Option ℕ
delay_in value = option_map (λ duration. unwrap_or duration 0) (duration_in value)

-- how long a pause is: the text of a duration, or seconds as a whole number or a text of digits
abbrev pub pause_seconds : Data → Option ℕ
pause_seconds value =
    option_or (count_up_to 31536000 value) (option_and_then seconds_of (as_str value))

-- ---- tests

abbrev pub anything : Data → Bool
anything value = true

abbrev pub is_true : Data → Bool
is_true value = unwrap_or (as_bool value) false

abbrev pub is_other_text : List ℕ → Data → Bool
is_other_text text value =
    unwrap_or (option_map (λ found. not (bytes_eq found text)) (as_str value)) true

abbrev pub is_no_empty_list : Data → Bool
is_no_empty_list value =
    unwrap_or (option_map (λ items. not (items_len items == 0)) (as_array value)) true

abbrev pub is_negative_number : Num → Bool
is_negative_number (unsigned n) = false
is_negative_number (negative z) = true
is_negative_number (float x) = false

-- a minus and digits that are not all 0
abbrev pub is_negative_text : List ℕ → Bool
is_negative_text [] = false
is_negative_text (b ∷ bs) =
    b == 45 && list_all is_ascii_digit bs && not (list_all (λ d. d == 48) bs)

-- a whole number below 0, or a text of one
abbrev pub is_negative : Data → Bool
is_negative value =
    unwrap_or (option_map is_negative_number (as_number value)) false
    || unwrap_or (option_map is_negative_text (as_str value)) false

abbrev pub any_item : (Data → Bool) → Items → Bool
any_item test no_items = false
any_item test (item value rest) = test value || any_item test rest

-- a list, an item of which passes the test
abbrev pub some_item : (Data → Bool) → Data → Bool
some_item test value = unwrap_or (option_map (any_item test) (as_array value)) false
