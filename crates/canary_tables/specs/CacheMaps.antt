-- Values under names, each with what it weighs.
use Rattle.std.specs.Prelude.{◌≡◌, ℕ, ◌+◌, List, [], ◌∷◌, Option, Some, None, option_map, if◌then◌else◌}
use Rattle.std.specs.Option.{option_or}
use Rattle.std.specs.FinMap.{FinMap, get}
use Rattle.std.specs.Map.{lookup}
use Rattle.std.specs.Ordering.{nat_cmp}
use Rattle.std.specs.Cmp.Lexicographic.{slice_cmp}
use Rattle.std.specs.BTreeMap.{is_at}
use Rattle.canary_tables.specs.declared.cache_map.Weighed.{Weighed}

-- values under names
abbrev pub Named : Type 0 → Type 0
Named A = FinMap (slice_cmp nat_cmp) A

-- what stands in the one stands in the other
abbrev pub IsWithin : {A : Type 0} → Named A → Named A → Type 0
IsWithin {A} m n = (name : List ℕ) (value : A) → get m name ≡ Some value → get n name ≡ Some value

-- an entry without its weight
abbrev pub unweighed : {A : Type 0} → List ℕ × Weighed A → List ℕ × A
unweighed e = (e.0, e.1.value)

-- what entries weigh together
abbrev pub weights : {A : Type 0} → List (List ℕ × Weighed A) → ℕ
weights [] = 0
weights (e ∷ es) = e.1.weight + weights es

abbrev pub weight_if : {A : Type 0} → Option (Weighed A) → ℕ
weight_if None = 0
weight_if (Some w) = w.weight

abbrev pub value_if : {A : Type 0} → Option (Weighed A) → Option A
value_if {A} found = option_map (λ (w : Weighed A). w.value) found

-- the value under a name in entries
abbrev pub at_name : {X : Type 0} → List (List ℕ × X) → List ℕ → Option X
at_name es name = lookup (is_at (slice_cmp nat_cmp name)) es

-- the one that stands in the first entries, or else in the second
abbrev pub first_of : {X : Type 0} → List (List ℕ × X) → List (List ℕ × X) → List ℕ → Option X
first_of es fs name = option_or (at_name es name) (at_name fs name)

-- a value was put under a name: the others have what they had
abbrev pub IsPut : {A : Type 0} → List (List ℕ × Weighed A) → List (List ℕ × Weighed A) → List ℕ
    → A → Type 0
IsPut old new name value =
    (other : List ℕ) → value_if (at_name new other)
    ≡ (if is_at (slice_cmp nat_cmp name) other then Some value else value_if (at_name old other))

-- an entry was put under a name: the others are what they were
abbrev pub IsEntered : {X : Type 0} → List (List ℕ × X) → List (List ℕ × X) → List ℕ → X → Type 0
IsEntered old new name entry =
    (other : List ℕ) → at_name new other
    ≡ (if is_at (slice_cmp nat_cmp name) other then Some entry else at_name old other)
