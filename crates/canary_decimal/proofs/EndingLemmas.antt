-- Endings of labels: what is read is what stands there, and each ending is read.
use Rattle.std.proofs.Common.{◌≡◌, ℕ, ◌+◌, ◌-◌, ◌<◌, ◌≤◌, Bool, true, false, List, [], ◌∷◌, ◌++◌, length, take, drop, take-append-drop, get_or, Option, Some, None, refl, sym, ap, ◌∙◌, subst, inl, inr, arith, length-take-le}
use Rattle.std.specs.Prelude.{◌==◌, ◌&&◌, ◌/◌, ◌%◌, nat_le, option_map, if◌then◌else◌, ◌⊎◌}
use Rattle.std.specs.Fmt.{decimal}
use Rattle.std.proofs.lemmas.Bool.{and_parts, cases_lt}
use Rattle.std.proofs.lemmas.Bool.Decides.{nat_tests}
use Rattle.std.proofs.lemmas.Fmt.{decimal_digit, decimal_step}
use Rattle.std.proofs.lemmas.List.{drop_at, get_or-drop}
use Rattle.std.proofs.lemmas.Option.{none-some, same_Some}
use Rattle.canary_decimal.specs.declared.shown.Beside.{Beside}
use Rattle.canary_decimal.specs.declared.shown.Beside.TheVariants.{Nothing, NaN, Infinite, Null, FloatText, WholeText}
use Rattle.canary_decimal.specs.declared.shown.Units.{Units}
use Rattle.canary_decimal.specs.Spelling.{IsDigits}
use Rattle.canary_decimal.specs.Reader.{is_digits}
use Rattle.canary_decimal.specs.Endings.{IsShape, beside_text, IsEnding, IsLabelOf, shape_of, units_with, with_shape, with_beside, of_one_digit, of_two_digits, of_places, units_of}
use Rattle.canary_decimal.proofs.ReadsAll.{digits_from, is_digits_so}

-- ---- each ending is read

shape_read : (l : Bool) (shape : List ℕ) → IsShape l shape → shape_of shape ≡ Some l
shape_read false shape (inl e) = ap shape_of e
shape_read false shape (inr (inl e)) = ap shape_of e
shape_read false shape (inr (inr (ds, digits, e))) =
    ap shape_of e ∙ ap (λ (t : Bool). if t then Some false else (if 112 == 108 && is_digits ds then Some true else None)) (is_digits_so ds digits)
shape_read true shape (ds, digits, e) =
    ap shape_of e ∙ ap (λ (t : Bool). if t then Some true else None) (is_digits_so ds digits)

without_letter : (n : ℕ) (l : Bool) (shape : List ℕ) → IsShape l shape → with_beside n shape ≡ with_shape n Nothing shape
without_letter n false shape (inl e) = ap (with_beside n) e ∙ sym (ap (with_shape n Nothing) e)
without_letter n false shape (inr (inl e)) = ap (with_beside n) e ∙ sym (ap (with_shape n Nothing) e)
without_letter n false shape (inr (inr (ds, digits, e))) = ap (with_beside n) e ∙ sym (ap (with_shape n Nothing) e)
without_letter n true shape (ds, digits, e) = ap (with_beside n) e ∙ sym (ap (with_shape n Nothing) e)

beside_read : (n : ℕ) (beside : Beside) (l : Bool) (shape : List ℕ) → IsShape l shape → with_beside n (beside_text beside ++ shape) ≡ Some (units_with n beside l)
beside_read n Nothing l shape h = without_letter n l shape h ∙ ap (option_map (units_with n Nothing)) (shape_read l shape h)
beside_read n NaN l shape h = ap (option_map (units_with n NaN)) (shape_read l shape h)
beside_read n Infinite l shape h = ap (option_map (units_with n Infinite)) (shape_read l shape h)
beside_read n Null l shape h = ap (option_map (units_with n Null)) (shape_read l shape h)
beside_read n FloatText l shape h = ap (option_map (units_with n FloatText)) (shape_read l shape h)
beside_read n WholeText l shape h = ap (option_map (units_with n WholeText)) (shape_read l shape h)

one_digit_read : (n c : ℕ) (rest : List ℕ) → c ≡ 48 + n → 6 ≤ n → n ≤ 9 → of_places (c ∷ rest) ≡ with_beside n rest
one_digit_read n c rest e low high =
    let first : (c == 49) ≡ false = grind (arith, nat_tests) in
    let within : (nat_le 54 c && nat_le c 57) ≡ true = grind (arith, nat_tests) in
    let same : c - 48 ≡ n = omega arith in
    ap (λ (t : Bool). if t then of_two_digits rest else of_one_digit (c ∷ rest)) first
    ∙ ap (λ (t : Bool). if t then with_beside (c - 48) rest else None) within
    ∙ ap (λ (k : ℕ). with_beside k rest) same

two_digits_read : (n c : ℕ) (rest : List ℕ) → c ≡ 38 + n → 10 ≤ n → n ≤ 18 → of_places (49 ∷ c ∷ rest) ≡ with_beside n rest
two_digits_read n c rest e low high =
    let within : (nat_le 48 c && nat_le c 56) ≡ true = grind (arith, nat_tests) in
    let same : 10 + (c - 48) ≡ n = omega arith in
    ap (λ (t : Bool). if t then with_beside (10 + (c - 48)) rest else None) within
    ∙ ap (λ (k : ℕ). with_beside k rest) same

ten_and : (n : ℕ) → 10 ≤ n → n ≤ 18 → decimal n ≡ 49 ∷ (38 + n) ∷ []
ten_and n low high =
    let front : n / 10 ≡ 1 = omega arith in
    let back : 48 + n % 10 ≡ 38 + n = omega arith in
    decimal_step n low (omega arith)
    ∙ ap (λ (k : ℕ). decimal k ++ (48 + n % 10) ∷ []) front
    ∙ ap (λ (ds : List ℕ). ds ++ (48 + n % 10) ∷ []) (decimal_digit 1 (omega arith))
    ∙ ap (λ (c : ℕ). 49 ∷ c ∷ []) back

places_read : (n : ℕ) (rest : List ℕ) → 6 ≤ n → n ≤ 18 → (n < 10) ⊎ (10 ≤ n) → of_places (decimal n ++ rest) ≡ with_beside n rest
places_read n rest low high (inl less) =
    ap (λ (ds : List ℕ). of_places (ds ++ rest)) (decimal_digit n less)
    ∙ one_digit_read n (48 + n) rest refl low (omega arith)
places_read n rest low high (inr more) =
    ap (λ (ds : List ℕ). of_places (ds ++ rest)) (ten_and n more high)
    ∙ two_digits_read n (38 + n) rest refl more high

pub ending_read : (text : List ℕ) (u : Units) → IsEnding text u → units_of text ≡ Some u
ending_read text u (low, high, (shape, is_shape, e)) =
    ap units_of e
    ∙ places_read u.places (beside_text u.beside ++ shape) low high (cases_lt u.places 10)
    ∙ beside_read u.places u.beside u.length shape is_shape

-- ---- what is read stands there

digits_if : (b c : ℕ) (rest : List ℕ) → (b == c && is_digits rest) ≡ true → (b ≡ c) × IsDigits rest
digits_if b c rest e =
    let parts = and_parts (b == c) (is_digits rest) e in
    (grind (arith, nat_tests), digits_from rest parts.1)

nothing_if : (b : ℕ) (rest : List ℕ) → (b == 102 && length rest == 0) ≡ true → b ∷ rest ≡ 102 ∷ []
nothing_if b [] e =
    let parts = and_parts (b == 102) true e in
    ap (λ (c : ℕ). c ∷ []) (let it : b ≡ 102 = grind (arith, nat_tests) in it)
nothing_if b (c ∷ rest) e =
    let parts = and_parts (b == 102) (length (c ∷ rest) == 0) e in
    absurd (let it : length (c ∷ rest) ≡ 0 = grind (arith, nat_tests) in omega arith)

shape_sound : (shape : List ℕ) (l : Bool) → shape_of shape ≡ Some l → IsShape l shape
shape_sound [] l e = subst (λ (k : Bool). IsShape k []) (same_Some false l e) (inl refl)
shape_sound (b ∷ rest) l e =
    elim (b == 102 && length rest == 0) as (λ t. (b == 102 && length rest == 0) ≡ t → (if t then Some false else (if b == 112 && is_digits rest then Some false else (if b == 108 && is_digits rest then Some true else None))) ≡ Some l → IsShape l (b ∷ rest)) [
      | true ↦ λ at found. subst (λ (k : Bool). IsShape k (b ∷ rest)) (same_Some false l found) (inr (inl (nothing_if b rest at)))
      | false ↦ λ _ other.
          elim (b == 112 && is_digits rest) as (λ t. (b == 112 && is_digits rest) ≡ t → (if t then Some false else (if b == 108 && is_digits rest then Some true else None)) ≡ Some l → IsShape l (b ∷ rest)) [
            | true ↦ λ at found.
                let h = digits_if b 112 rest at in
                subst (λ (k : Bool). IsShape k (b ∷ rest)) (same_Some false l found) (inr (inr (rest, h.1, ap (λ (c : ℕ). c ∷ rest) h.0)))
            | false ↦ λ _ last.
                elim (b == 108 && is_digits rest) as (λ t. (b == 108 && is_digits rest) ≡ t → (if t then Some true else None) ≡ Some l → IsShape l (b ∷ rest)) [
                  | true ↦ λ at found.
                      let h = digits_if b 108 rest at in
                      subst (λ (k : Bool). IsShape k (b ∷ rest)) (same_Some true l found) (rest, h.1, ap (λ (c : ℕ). c ∷ rest) h.0)
                  | false ↦ λ _ none. absurd (none-some l none)
                ] refl last
          ] refl other
    ] refl e

-- what stands after the places
abbrev IsRest : ℕ → List ℕ → Units → Type 0
IsRest n rest u =
    (u.places ≡ n) × ((shape : List ℕ) × IsShape u.length shape × (rest ≡ beside_text u.beside ++ shape))

with_shape_sound : (n : ℕ) (beside : Beside) (shape rest : List ℕ) (u : Units) → rest ≡ beside_text beside ++ shape → with_shape n beside shape ≡ Some u → (o : Option Bool) → shape_of shape ≡ o → option_map (units_with n beside) o ≡ Some u → IsRest n rest u
with_shape_sound n beside shape rest u e _ None is found = absurd (none-some u found)
with_shape_sound n beside shape rest u e _ (Some l) is found =
    subst (λ (v : Units). IsRest n rest v) (same_Some (units_with n beside l) u found) (refl, (shape, shape_sound shape l is, e))

-- the same of a letter that is read, if it stands there
letter_sound : (n c : ℕ) (beside : Beside) (b : ℕ) (rest : List ℕ) (other : Option Units) (u : Units) → beside_text beside ≡ c ∷ [] → (other ≡ Some u → IsRest n (b ∷ rest) u) → (if b == c then with_shape n beside rest else other) ≡ Some u → IsRest n (b ∷ rest) u
letter_sound n c beside b rest other u letter more e =
    elim (b == c) as (λ t. (b == c) ≡ t → (if t then with_shape n beside rest else other) ≡ Some u → IsRest n (b ∷ rest) u) [
      | true ↦ λ at found.
          let mark : b ≡ c = grind (arith, nat_tests) in
          with_shape_sound n beside rest (b ∷ rest) u (ap (λ (k : ℕ). k ∷ rest) mark ∙ sym (ap (λ (t : List ℕ). t ++ rest) letter)) found (shape_of rest) refl found
      | false ↦ λ _ found. more found
    ] refl e

rest_sound : (n : ℕ) (rest : List ℕ) (u : Units) → with_beside n rest ≡ Some u → IsRest n rest u
rest_sound n [] u e = with_shape_sound n Nothing [] [] u refl e (shape_of []) refl e
rest_sound n (b ∷ rest) u e =
    let plain : Option Units = with_shape n Nothing (b ∷ rest) in
    let whole : Option Units = if b == 119 then with_shape n WholeText rest else plain in
    let float : Option Units = if b == 116 then with_shape n FloatText rest else whole in
    let null : Option Units = if b == 115 then with_shape n Null rest else float in
    let infinite : Option Units = if b == 105 then with_shape n Infinite rest else null in
    letter_sound n 110 NaN b rest infinite u refl
    (letter_sound n 105 Infinite b rest null u refl
    (letter_sound n 115 Null b rest float u refl
    (letter_sound n 116 FloatText b rest whole u refl
    (letter_sound n 119 WholeText b rest plain u refl
    (λ found. with_shape_sound n Nothing (b ∷ rest) (b ∷ rest) u refl found (shape_of (b ∷ rest)) refl found))))) e

-- the places, and what stands after them
abbrev IsPlaces : List ℕ → Units → Type 0
IsPlaces text u =
    (n : ℕ) × (6 ≤ n) × (n ≤ 18) × ((rest : List ℕ) × (text ≡ decimal n ++ rest) × IsRest n rest u)

one_digit_sound : (d : ℕ) (rest : List ℕ) (u : Units) → of_one_digit (d ∷ rest) ≡ Some u → IsPlaces (d ∷ rest) u
one_digit_sound d rest u e =
    elim (nat_le 54 d && nat_le d 57) as (λ t. (nat_le 54 d && nat_le d 57) ≡ t → (if t then with_beside (d - 48) rest else None) ≡ Some u → IsPlaces (d ∷ rest) u) [
      | true ↦ λ at found.
          let parts = and_parts (nat_le 54 d) (nat_le d 57) at in
          let low : 54 ≤ d = grind (arith, nat_tests) in
          let high : d ≤ 57 = grind (arith, nat_tests) in
          let same : 48 + (d - 48) ≡ d = omega arith in
          let written : d ∷ rest ≡ decimal (d - 48) ++ rest = ap (λ (c : ℕ). c ∷ rest) (sym same) ∙ ap (λ (ds : List ℕ). ds ++ rest) (sym (decimal_digit (d - 48) (omega arith))) in
          (d - 48, omega arith, omega arith, (rest, written, rest_sound (d - 48) rest u found))
      | false ↦ λ _ none. absurd (none-some u none)
    ] refl e

two_digits_sound : (rest : List ℕ) (u : Units) → of_two_digits rest ≡ Some u → IsPlaces (49 ∷ rest) u
two_digits_sound [] u e = absurd (none-some u e)
two_digits_sound (d ∷ rest) u e =
    elim (nat_le 48 d && nat_le d 56) as (λ t. (nat_le 48 d && nat_le d 56) ≡ t → (if t then with_beside (10 + (d - 48)) rest else None) ≡ Some u → IsPlaces (49 ∷ d ∷ rest) u) [
      | true ↦ λ at found.
          let parts = and_parts (nat_le 48 d) (nat_le d 56) at in
          let low : 48 ≤ d = grind (arith, nat_tests) in
          let high : d ≤ 56 = grind (arith, nat_tests) in
          let n : ℕ = 10 + (d - 48) in
          let same : 38 + n ≡ d = omega arith in
          let written : 49 ∷ d ∷ rest ≡ decimal n ++ rest = ap (λ (c : ℕ). 49 ∷ c ∷ rest) (sym same) ∙ ap (λ (ds : List ℕ). ds ++ rest) (sym (ten_and n (omega arith) (omega arith))) in
          (n, omega arith, omega arith, (rest, written, rest_sound n rest u found))
      | false ↦ λ _ none. absurd (none-some u none)
    ] refl e

places_sound : (text : List ℕ) (u : Units) → of_places text ≡ Some u → IsPlaces text u
places_sound [] u e = absurd (none-some u e)
places_sound (d ∷ rest) u e =
    elim (d == 49) as (λ t. (d == 49) ≡ t → (if t then of_two_digits rest else of_one_digit (d ∷ rest)) ≡ Some u → IsPlaces (d ∷ rest) u) [
      | true ↦ λ at found.
          let one : d ≡ 49 = grind (arith, nat_tests) in
          subst (λ (c : ℕ). IsPlaces (c ∷ rest) u) (sym one) (two_digits_sound rest u found)
      | false ↦ λ _ found. one_digit_sound d rest u found
    ] refl e

-- what an ending begins with
pub begins : (text : List ℕ) (u : Units) → units_of text ≡ Some u → (rest : List ℕ) × (text ≡ 46 ∷ 101 ∷ rest) × (of_places rest ≡ Some u)
begins [] u e = absurd (none-some u e)
begins (a ∷ []) u e =
    elim (a == 46) as (λ t. (if t then None else None) ≡ Some u → (rest : List ℕ) × (a ∷ [] ≡ 46 ∷ 101 ∷ rest) × (of_places rest ≡ Some u)) [
      | true ↦ λ none. absurd (none-some u none)
      | false ↦ λ none. absurd (none-some u none)
    ] e
begins (a ∷ b ∷ rest) u e =
    elim (a == 46) as (λ t. (a == 46) ≡ t → (if t then (if b == 101 then of_places rest else None) else None) ≡ Some u → (more : List ℕ) × (a ∷ b ∷ rest ≡ 46 ∷ 101 ∷ more) × (of_places more ≡ Some u)) [
      | true ↦ λ at other.
          elim (b == 101) as (λ t. (b == 101) ≡ t → (if t then of_places rest else None) ≡ Some u → (more : List ℕ) × (a ∷ b ∷ rest ≡ 46 ∷ 101 ∷ more) × (of_places more ≡ Some u)) [
            | true ↦ λ so found.
                let point : a ≡ 46 = grind (arith, nat_tests) in
                let mark : b ≡ 101 = grind (arith, nat_tests) in
                (rest, ap (λ (c : ℕ). c ∷ b ∷ rest) point ∙ ap (λ (c : ℕ). 46 ∷ c ∷ rest) mark, found)
            | false ↦ λ _ none. absurd (none-some u none)
          ] refl other
      | false ↦ λ _ none. absurd (none-some u none)
    ] refl e

pub ending_sound : (text : List ℕ) (u : Units) → units_of text ≡ Some u → IsEnding text u
ending_sound text u e =
    let at = begins text u e in
    let p = places_sound at.0 u at.2 in
    let n : ℕ = p.0 in
    let tail = p.3 in
    let is : u.places ≡ n = tail.2.0 in
    let shape : List ℕ = tail.2.1.0 in
    let whole : text ≡ 46 ∷ 101 ∷ (decimal u.places ++ (beside_text u.beside ++ shape)) =
    at.1 ∙ ap (λ (t : List ℕ). 46 ∷ 101 ∷ t) (tail.1 ∙ ap (λ (t : List ℕ). decimal n ++ t) tail.2.1.2 ∙ ap (λ (k : ℕ). decimal k ++ (beside_text u.beside ++ shape)) (sym is)) in
    (omega (arith, p.1), omega (arith, p.2), (shape, tail.2.1.1, whole))

-- ---- labels

-- the byte at which an ending begins is one of ASCII
pub begins_at : (text : List ℕ) (i : ℕ) (u : Units) → i < length text → units_of (drop i text) ≡ Some u → get_or text i 0 < 128
begins_at text i u h e =
    let at = begins (drop i text) u e in
    let first : get_or (drop i text) 0 0 ≡ 46 = ap (λ (t : List ℕ). get_or t 0 0) at.1 in
    let place : i ≡ i + 0 = omega arith in
    let same : get_or text i 0 ≡ 46 = ap (λ (k : ℕ). get_or text k 0) place ∙ sym (get_or-drop i text 0 0) ∙ first in
    omega arith

-- what stands before an ending is a name
pub found_there : (label bytes name : List ℕ) (place : ℕ) (u : Units) → bytes ≡ label → name ≡ take (place - 0) label → 0 < place → place < length bytes → units_of (drop place bytes) ≡ Some u → IsLabelOf label name u
found_there label bytes name place u same cut some within found =
    let is : name ≡ take place label = cut ∙ ap (λ (k : ℕ). take k label) (let it : place - 0 ≡ place = omega arith in it) in
    let shorter : place ≤ length label = omega (arith, ap length same) in
    let named : length name ≡ place = ap length is ∙ length-take-le place label shorter in
    let ending : units_of (drop place label) ≡ Some u = ap (λ (t : List ℕ). units_of (drop place t)) (sym same) ∙ found in
    (omega arith, (drop place label, sym (take-append-drop place label) ∙ ap (λ (t : List ℕ). t ++ drop place label) (sym is), ending_sound (drop place label) u ending))

-- no ending at any place: the label has none
pub none_there : (label name : List ℕ) (u : Units) → ((place : ℕ) (v : Units) → 0 < place → units_of (drop place label) ≡ Some v → ⊥) → IsLabelOf label name u → ⊥
none_there label name u none (some, (ending, e, is)) =
    none (length name) u some (ap (λ (t : List ℕ). units_of (drop (length name) t)) e ∙ ap units_of (drop_at name ending (length name) refl) ∙ ending_read ending u is)
