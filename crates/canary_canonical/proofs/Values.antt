-- A list of values that is written item after item.
use Rattle.std.proofs.Common.{◌≡◌, ◌∙◌, ◌++◌, ◌+◌, ◌<◌, ◌&&◌, ℕ, Bool, true, List, [], ◌∷◌, map, take, drop, get_or, length, ap, sym}
use Rattle.std.specs.List.{list_all}
use Rattle.std.proofs.lemmas.List.{map_push, map_more, at_drop_more}
use Rattle.serde_json.specs.Data.{Data}
use Rattle.serde_json.specs.View.{view}
use Rattle.serde_json.specs.declared.value.Value.{Value}

-- one more value is written
pub value_more : {A : Type 0} (form : A → Data) (xs : List A) (i : ℕ) (other : A) (done next : List Value) (value : Value) → i < length xs
    → map view done ≡ map form (take i xs) → view value ≡ form (get_or xs i other) → next ≡ done ++ value ∷ []
    → map view next ≡ map form (take (i + 1) xs)
value_more form xs i other done next value lt so is pushed =
    ap (map view) pushed ∙ map_push view done value ∙ ap (λ ds. ds ++ view value ∷ []) so
    ∙ ap (λ d. map form (take i xs) ++ d ∷ []) is ∙ sym (map_more form xs i other lt)

-- what holds of one more item still holds of all if it does of those that are left
pub kept_more : {A : Type 0} (test : A → Bool) (xs : List A) (i : ℕ) (other : A) → i < length xs → test (get_or xs i other) ≡ true
    → list_all test (drop i xs) ≡ list_all test xs → list_all test (drop (i + 1) xs) ≡ list_all test xs
kept_more test xs i other lt holds so =
    ap (λ b. b && list_all test (drop (i + 1) xs)) (sym holds) ∙ sym (at_drop_more (list_all test) xs i other lt) ∙ so
