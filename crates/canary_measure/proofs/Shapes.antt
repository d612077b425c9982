-- Shapes as they are written: what is read stands there, and each shape is read.
use Rattle.std.proofs.Common.{◌≡◌, ℕ, ◌+◌, ◌-◌, ◌<◌, ◌≤◌, Bool, true, false, List, [], ◌∷◌, ◌++◌, length, Option, Some, None, refl, sym, ap, ◌∙◌, subst, inl, inr, arith}
use Rattle.std.specs.Prelude.{◌==◌, ◌&&◌, ◌/◌, ◌%◌, nat_le, if◌then◌else◌}
use Rattle.std.specs.Fmt.{decimal}
use Rattle.std.proofs.lemmas.Bool.{and_parts, cases_lt}
use Rattle.std.proofs.lemmas.Bool.Decides.{nat_tests}
use Rattle.std.proofs.lemmas.Fmt.{decimal_digit, decimal_step}
use Rattle.std.proofs.lemmas.Option.{none-some, same_Some}
use Rattle.canary_argo.specs.declared.form.Shape.{Shape}
use Rattle.canary_argo.specs.declared.form.Shape.TheVariants.{One, First, Several, Length}
use Rattle.canary_argo.specs.Labels.{shape_text}
use Rattle.canary_measure.specs.Labelled.{IsShapeWithin, digit_in, teen_in, count_in, several, with_length, shape_in}

-- ---- each shape is read

digit_read : (n : ℕ) → n < 10 → digit_in (48 + n) ≡ Some n
digit_read n less =
    let within : (nat_le 48 (48 + n) && nat_le (48 + n) 57) ≡ true = grind (arith, nat_tests) in
    let same : 48 + n - 48 ≡ n = omega arith in
    ap (λ (t : Bool). if t then Some (48 + n - 48) else None) within ∙ ap (λ (k : ℕ). Some k) same

teen_read : (n : ℕ) → 10 ≤ n → n ≤ 16 → teen_in (38 + n) ≡ Some n
teen_read n more few =
    let within : (nat_le 48 (38 + n) && nat_le (38 + n) 54) ≡ true = grind (arith, nat_tests) in
    let same : 10 + (38 + n - 48) ≡ n = omega arith in
    ap (λ (t : Bool). if t then Some (10 + (38 + n - 48)) else None) within ∙ ap (λ (k : ℕ). Some k) same

-- a count of two digits
ten_and : (n : ℕ) → 10 ≤ n → n ≤ 16 → decimal n ≡ 49 ∷ (38 + n) ∷ []
ten_and n more few =
    let front : n / 10 ≡ 1 = omega arith in
    let back : 48 + n % 10 ≡ 38 + n = omega arith in
    decimal_step n more (omega arith)
    ∙ ap (λ (k : ℕ). decimal k ++ (48 + n % 10) ∷ []) front
    ∙ ap (λ (ds : List ℕ). ds ++ (48 + n % 10) ∷ []) (decimal_digit 1 (omega arith))
    ∙ ap (λ (c : ℕ). 49 ∷ c ∷ []) back

count_read : (n : ℕ) → n ≤ 16 → count_in (decimal n) ≡ Some n
count_read n few =
    elim (cases_lt n 10) [
      | inl less ↦ ap count_in (decimal_digit n less) ∙ digit_read n less
      | inr more ↦ ap count_in (ten_and n more few) ∙ teen_read n more few
    ]

pub shape_read : (shape : Shape) → IsShapeWithin shape → shape_in (shape_text shape) ≡ Some shape
shape_read One h = refl
shape_read First h = refl
shape_read (Several most) (some, few) =
    let enough : nat_le 2 most ≡ true = grind (arith, nat_tests) in
    ap several (count_read most few) ∙ ap (λ (t : Bool). if t then Some (Several most) else None) enough
shape_read (Length most) few =
    let within : nat_le most 15 ≡ true = grind (arith, nat_tests) in
    ap with_length (count_read most (omega arith)) ∙ ap (λ (t : Bool). if t then Some (Length most) else None) within

-- ---- what is read stands there

digit_sound : (d n : ℕ) → digit_in d ≡ Some n → (n < 10) × (d ≡ 48 + n)
digit_sound d n e =
    elim (nat_le 48 d && nat_le d 57) as (λ t. (nat_le 48 d && nat_le d 57) ≡ t → (if t then Some (d - 48) else None) ≡ Some n → (n < 10) × (d ≡ 48 + n)) [
      | true ↦ λ at found.
          let parts = and_parts (nat_le 48 d) (nat_le d 57) at in
          let low : 48 ≤ d = grind (arith, nat_tests) in
          let high : d ≤ 57 = grind (arith, nat_tests) in
          let is : d - 48 ≡ n = same_Some (d - 48) n found in
          (omega arith, omega arith)
      | false ↦ λ _ none. absurd (none-some n none)
    ] refl e

teen_sound : (d n : ℕ) → teen_in d ≡ Some n → (10 ≤ n) × (n ≤ 16) × (d ≡ 38 + n)
teen_sound d n e =
    elim (nat_le 48 d && nat_le d 54) as (λ t. (nat_le 48 d && nat_le d 54) ≡ t → (if t then Some (10 + (d - 48)) else None) ≡ Some n → (10 ≤ n) × (n ≤ 16) × (d ≡ 38 + n)) [
      | true ↦ λ at found.
          let parts = and_parts (nat_le 48 d) (nat_le d 54) at in
          let low : 48 ≤ d = grind (arith, nat_tests) in
          let high : d ≤ 54 = grind (arith, nat_tests) in
          let is : 10 + (d - 48) ≡ n = same_Some (10 + (d - 48)) n found in
          (omega arith, omega arith, omega arith)
      | false ↦ λ _ none. absurd (none-some n none)
    ] refl e

count_sound : (ds : List ℕ) (n : ℕ) → count_in ds ≡ Some n → (n ≤ 16) × (ds ≡ decimal n)
count_sound [] n e = absurd (none-some n e)
count_sound (d ∷ []) n e =
    let it = digit_sound d n e in
    let less : n < 10 = it.0 in
    (omega arith, ap (λ (c : ℕ). c ∷ []) it.1 ∙ sym (decimal_digit n less))
count_sound (t ∷ d ∷ []) n e =
    elim (t == 49) as (λ b. (t == 49) ≡ b → (if b then teen_in d else None) ≡ Some n → (n ≤ 16) × (t ∷ d ∷ [] ≡ decimal n)) [
      | true ↦ λ at found.
          let it = teen_sound d n found in
          let ten : t ≡ 49 = grind (arith, nat_tests) in
          (it.1, ap (λ (c : ℕ). c ∷ d ∷ []) ten ∙ ap (λ (c : ℕ). 49 ∷ c ∷ []) it.2 ∙ sym (ten_and n it.0 it.1))
      | false ↦ λ _ none. absurd (none-some n none)
    ] refl e
count_sound (t ∷ d ∷ c ∷ ds) n e = absurd (none-some n e)

-- the shape is one that may be, and it is written so
abbrev IsWritten : List ℕ → Shape → Type 0
IsWritten text shape = IsShapeWithin shape × (text ≡ shape_text shape)

several_sound : (rest : List ℕ) (shape : Shape) (o : Option ℕ) → count_in rest ≡ o → several o ≡ Some shape → IsWritten (112 ∷ rest) shape
several_sound rest shape None at e = absurd (none-some shape e)
several_sound rest shape (Some most) at e =
    elim (nat_le 2 most) as (λ t. nat_le 2 most ≡ t → (if t then Some (Several most) else None) ≡ Some shape → IsWritten (112 ∷ rest) shape) [
      | true ↦ λ enough found.
          let it = count_sound rest most at in
          let some : 2 ≤ most = grind (arith, nat_tests) in
          subst (λ (s : Shape). IsWritten (112 ∷ rest) s) (same_Some (Several most) shape found) ((some, it.0), ap (λ (ds : List ℕ). 112 ∷ ds) it.1)
      | false ↦ λ _ none. absurd (none-some shape none)
    ] refl e

length_sound : (rest : List ℕ) (shape : Shape) (o : Option ℕ) → count_in rest ≡ o → with_length o ≡ Some shape → IsWritten (108 ∷ rest) shape
length_sound rest shape None at e = absurd (none-some shape e)
length_sound rest shape (Some most) at e =
    elim (nat_le most 15) as (λ t. nat_le most 15 ≡ t → (if t then Some (Length most) else None) ≡ Some shape → IsWritten (108 ∷ rest) shape) [
      | true ↦ λ within found.
          let it = count_sound rest most at in
          let few : most ≤ 15 = grind (arith, nat_tests) in
          subst (λ (s : Shape). IsWritten (108 ∷ rest) s) (same_Some (Length most) shape found) (few, ap (λ (ds : List ℕ). 108 ∷ ds) it.1)
      | false ↦ λ _ none. absurd (none-some shape none)
    ] refl e

nothing_if : (b : ℕ) (rest : List ℕ) → (b == 102 && length rest == 0) ≡ true → b ∷ rest ≡ 102 ∷ []
nothing_if b [] e =
    let parts = and_parts (b == 102) true e in
    ap (λ (c : ℕ). c ∷ []) (let it : b ≡ 102 = grind (arith, nat_tests) in it)
nothing_if b (c ∷ rest) e =
    let parts = and_parts (b == 102) (length (c ∷ rest) == 0) e in
    absurd (let it : length (c ∷ rest) ≡ 0 = grind (arith, nat_tests) in omega arith)

-- the same after this letter
begun : (b c : ℕ) (rest : List ℕ) (shape : Shape) → (b == c) ≡ true → IsWritten (c ∷ rest) shape → IsWritten (b ∷ rest) shape
begun b c rest shape at h =
    let same : b ≡ c = grind (arith, nat_tests) in
    subst (λ (k : ℕ). IsWritten (k ∷ rest) shape) (sym same) h

pub shape_sound : (text : List ℕ) (shape : Shape) → shape_in text ≡ Some shape → IsWritten text shape
shape_sound [] shape e = subst (λ (s : Shape). IsWritten [] s) (same_Some One shape e) (tt, refl)
shape_sound (b ∷ rest) shape e =
    elim (b == 102 && length rest == 0) as (λ t. (b == 102 && length rest == 0) ≡ t → (if t then Some First else (if b == 112 then several (count_in rest) else (if b == 108 then with_length (count_in rest) else None))) ≡ Some shape → IsWritten (b ∷ rest) shape) [
      | true ↦ λ at found. subst (λ (s : Shape). IsWritten (b ∷ rest) s) (same_Some First shape found) (tt, nothing_if b rest at)
      | false ↦ λ _ other.
          elim (b == 112) as (λ t. (b == 112) ≡ t → (if t then several (count_in rest) else (if b == 108 then with_length (count_in rest) else None)) ≡ Some shape → IsWritten (b ∷ rest) shape) [
            | true ↦ λ at found. begun b 112 rest shape at (several_sound rest shape (count_in rest) refl found)
            | false ↦ λ _ last.
                elim (b == 108) as (λ t. (b == 108) ≡ t → (if t then with_length (count_in rest) else None) ≡ Some shape → IsWritten (b ∷ rest) shape) [
                  | true ↦ λ at found. begun b 108 rest shape at (length_sound rest shape (count_in rest) refl found)
                  | false ↦ λ _ none. absurd (none-some shape none)
                ] refl last
          ] refl other
    ] refl e
