-- The texts of outcomes are read back, and no others.
use Rattle.std.proofs.Common.{◌≡◌, ◌≢◌, ℕ, suc, ◌-◌, ◌^◌, ◌<◌, ◌≤◌, ℤ, pos, negsuc, neg_ℤ, Bool, true, false, cond, List, [], ◌∷◌, ◌++◌, length, take, drop, map, get_or, refl, sym, ap, ◌∙◌, subst, arith, Option, Some, None, length-append}
use Rattle.std.specs.Prelude.{All, FitsSigned, IfSome, ◌==◌, nat_le, nat_lt, ◌&&◌, if◌then◌else◌, option_map}
use Rattle.std.specs.Int.{w64}
use Rattle.std.specs.Bool.{Decides}
use Rattle.std.specs.Str.{bytes_eq}
use Rattle.std.specs.Str.Parse.{signed_digits_value, digits_value, without_leading_sign}
use Rattle.std.specs.List.{slice_split, list_all}
use Rattle.std.specs.Fmt.{decimal, signed_decimal}
use Rattle.std.proofs.lemmas.Bool.Decides.{nat_tests, Decides-ltb, Decides-by_and, Decides-and, Decides-eqb, Decides-like}
use Rattle.std.proofs.lemmas.Fmt.{decimal_nonempty}
use Rattle.std.proofs.lemmas.Slice.Eq.{bytes_eq-Decides}
use Rattle.std.proofs.lemmas.List.{take_at}
use Rattle.canary_condition.specs.declared.outcome.Value.{Value}
use Rattle.canary_condition.specs.declared.outcome.Value.TheVariants.{Whole, List as ListResult}
use Rattle.canary_condition.specs.declared.outcome.Outcome.TheVariants.{Result as Brought, Failure}
use Rattle.canary_condition.specs.Results.{joined, IsResult, list_result, list_words, bracketed, words_of}
use Rattle.canary_condition.specs.OutcomeTexts.{is_signed_word, is_result, spelled_list, spelled, value_in, failure_with, outcome_in}
use Rattle.canary_condition.proofs.Numerals.{value_again, decimal_begins, decimal_digits}
use Rattle.canary_condition.proofs.Digits.{each_digit}
use Rattle.canary_condition.proofs.Pieces.{is_semicolon, pieces_are, rest_fits}

-- ---- numbers

-- a text that begins with a digit has no sign
plain_value : (text : List ℕ) → 48 ≤ get_or text 0 0 → signed_digits_value 10 text ≡ pos (digits_value 10 text)
plain_value text h =
    let minus : (get_or text 0 0 == 45) ≡ false = grind (arith, nat_tests) in
    let plus : (get_or text 0 0 == 43) ≡ false = grind (arith, nat_tests) in
    ap (λ (b : Bool). cond b (neg_ℤ (pos (digits_value 10 (without_leading_sign text)))) (pos (digits_value 10 (without_leading_sign text)))) minus
    ∙ ap (λ (b : Bool). pos (digits_value 10 (cond b (drop 1 text) (drop (cond (get_or text 0 0 == 43) 1 0) text)))) minus
    ∙ ap (λ (b : Bool). pos (digits_value 10 (drop (cond b 1 0) text))) plus

number_back : (z : ℤ) → FitsSigned w64 z → signed_digits_value 10 (signed_decimal z) ≡ z
number_back (pos n) h = let fits : n < 2 ^ 64 = omega (arith, h) in plain_value (decimal n) (decimal_begins n fits) ∙ ap (λ (k : ℕ). pos k) (value_again n fits)
number_back (negsuc n) h = let fits : suc n < 2 ^ 64 = omega (arith, h) in ap (λ (k : ℕ). neg_ℤ (pos k)) (value_again (suc n) fits)

numbers_back : (zs : List ℤ) → All (FitsSigned w64) zs → map (signed_digits_value 10) (map signed_decimal zs) ≡ zs
numbers_back [] all = refl
numbers_back (z ∷ zs) all =
    ap (λ (y : ℤ). y ∷ map (signed_digits_value 10) (map signed_decimal zs)) (number_back z (all 0 z (omega arith)))
    ∙ ap (λ (ys : List ℤ). z ∷ ys) (numbers_back zs (rest_fits z zs all))

-- ---- lists

inside_back : (inside : List ℕ) → take (length (bracketed inside) - 2) (drop 1 (bracketed inside)) ≡ inside
inside_back inside =
    let size : length (bracketed inside) - 2 ≡ length inside = omega (arith, length-append inside (93 ∷ [])) in
    ap (λ (k : ℕ). take k (inside ++ 93 ∷ [])) size ∙ take_at inside (93 ∷ []) (length inside) refl

list_back : (zs : List ℤ) → IsResult (list_result zs) → spelled_list (list_words zs) ≡ zs
list_back zs h =
    ap (λ (inside : List ℕ). map (signed_digits_value 10) (slice_split is_semicolon inside)) (inside_back (joined zs))
    ∙ ap (map (signed_digits_value 10)) (pieces_are (joined zs) zs h refl) ∙ numbers_back zs h.2

-- ---- values

-- a number's text begins with a digit or a `-`
number_begins : (z : ℤ) → FitsSigned w64 z → (45 ≤ get_or (signed_decimal z) 0 0) × (get_or (signed_decimal z) 0 0 ≤ 57)
number_begins (pos n) h =
    let fits : n < 2 ^ 64 = omega (arith, h) in
    let range = each_digit (decimal n) 0 (decimal_digits n fits) (decimal_nonempty n fits) in
    (omega (arith, range.0), range.1)
number_begins (negsuc n) h = (omega arith, omega arith)

-- what the text of a result spells
spelled_back : (value : Value) → IsResult value → spelled (words_of value) ≡ value
spelled_back (Whole z) h =
    let text : List ℕ = signed_decimal z in
    let range = number_begins z h in
    let no_list : (get_or text 0 0 == 91) ≡ false = grind (arith, nat_tests) in
    ap (λ (b : Bool). if b then ListResult (spelled_list text) else Whole (signed_digits_value 10 text)) no_list ∙ ap (λ (y : ℤ). Whole y) (number_back z h)
spelled_back (ListResult zs) h = ap (λ (ys : List ℤ). ListResult ys) (list_back zs h)

word_decides : (z : ℤ) → Decides (is_signed_word z) (FitsSigned w64 z)
word_decides (pos n) = Decides-like (nat_lt n (2 ^ 63)) (λ h. omega (arith, h)) (λ h. omega (arith, h)) (Decides-ltb n (2 ^ 63))
word_decides (negsuc n) = Decides-like (nat_lt n (2 ^ 63)) (λ h. omega (arith, h)) (λ h. omega (arith, h)) (Decides-ltb n (2 ^ 63))

words_decide : (zs : List ℤ) → Decides (list_all is_signed_word zs) (All (FitsSigned w64) zs)
words_decide zs = Decides-by_and is_signed_word (FitsSigned w64) (list_all is_signed_word) word_decides refl (λ _ _. refl) zs

within_decides : (a b : ℕ) → Decides (nat_le a b) (a ≤ b)
within_decides a b = (λ e. grind (arith, nat_tests), λ h. grind (arith, nat_tests))

result_decides : (value : Value) → Decides (is_result value) (IsResult value)
result_decides (Whole z) = word_decides z
result_decides (ListResult zs) =
    let most = Decides-and (nat_le (length zs) 16) (list_all is_signed_word zs) (within_decides (length zs) 16) (words_decide zs) in
    Decides-like (is_result (ListResult zs)) (λ h. (h.0, h.1.0, h.1.1)) (λ h. (h.0, (h.1, h.2)))
    (Decides-and (nat_le 1 (length zs)) (nat_le (length zs) 16 && list_all is_signed_word zs) (within_decides 1 (length zs)) most)

-- the test of `value_in`
abbrev is_spelled : List ℕ → Bool
is_spelled text = is_result (spelled text) && bytes_eq (words_of (spelled text)) text

spelled_decides : (text : List ℕ) → Decides (is_spelled text) (IsResult (spelled text) × (words_of (spelled text) ≡ text))
spelled_decides text = Decides-and (is_result (spelled text)) (bytes_eq (words_of (spelled text)) text) (result_decides (spelled text)) (bytes_eq-Decides (words_of (spelled text)) text)

-- a result is found in its text
pub found_in : (text : List ℕ) (value : Value) → IsResult value → text ≡ words_of value → value_in text ≡ Some value
unfolding value_in
found_in text value h e =
    let same : spelled text ≡ value = ap spelled e ∙ spelled_back value h in
    let test : is_spelled text ≡ true = (spelled_decides text).1 (subst IsResult (sym same) h, ap words_of same ∙ sym e) in
    ap (λ (b : Bool). if b then Some (spelled text) else None) test ∙ ap (λ (v : Value). Some v) same

nothing_read : (text : List ℕ) (r : Option Value) → IfSome r (λ value. words_of value ≡ text) → IfSome r (λ value. IsResult value) → value_in text ≡ None → r ≡ None
nothing_read text None words fits none = refl
nothing_read text (Some value) words fits none = let found : value_in text ≡ Some value = found_in text value fits (sym words) in cc

-- a reader that is sound and complete answers `value_in`
pub read_is : (text : List ℕ) (r : Option Value) → IfSome r (λ value. words_of value ≡ text) → IfSome r (λ value. IsResult value) → ((value : Value) → IsResult value → text ≡ words_of value → r ≡ Some value) → r ≡ value_in text
unfolding value_in
read_is text r words fits complete =
    elim (is_spelled text) as (λ b. is_spelled text ≡ b → r ≡ (if b then Some (spelled text) else None)) [
      | true ↦ λ e. let here = (spelled_decides text).0 e in complete (spelled text) here.0 (sym here.1)
      | false ↦ λ e. nothing_read text r words fits (ap (λ (b : Bool). if b then Some (spelled text) else None) e)
    ] refl

-- ---- outcomes

not_true : (b : Bool) → (b ≡ true → ⊥) → b ≡ false
not_true true never = absurd (never refl)
not_true false never = refl

eqb_equal : (x y : ℕ) → (x == y) ≡ true → x ≡ y
eqb_equal x y = (Decides-eqb x y).0

not_failure : (value : Value) → IsResult value → (get_or (words_of value) 0 0 == 33) ≡ false
not_failure (Whole z) h = let range = number_begins z h in grind (arith, nat_tests)
not_failure (ListResult zs) h = refl

pub result_back : (value : Value) → IsResult value → outcome_in (words_of value) ≡ Some (Brought value)
unfolding outcome_in
result_back value h =
    let text : List ℕ = words_of value in
    ap (λ (b : Bool). if b then failure_with (drop 1 text) else option_map (λ (v : Value). Brought v) (value_in text)) (not_failure value h)
    ∙ ap (option_map (λ (v : Value). Brought v)) (found_in text value h refl)

limits_decide : (text : List ℕ) → Decides (nat_le 1 (length text) && nat_le (length text) 200) ((1 ≤ length text) × (length text ≤ 200))
limits_decide text = Decides-and (nat_le 1 (length text)) (nat_le (length text) 200) (within_decides 1 (length text)) (within_decides (length text) 200)

pub failure_back : (text : List ℕ) → 1 ≤ length text → length text ≤ 200 → outcome_in (33 ∷ text) ≡ Some (Failure text)
unfolding outcome_in
failure_back text some most = ap (λ (b : Bool). if b then Some (Failure text) else None) ((limits_decide text).1 (some, most))

-- the text of an outcome is read back
pub ruleset outcome_back = (result_back, failure_back)

pub failure_read : (text rest : List ℕ) → text ≡ 33 ∷ rest → failure_with rest ≡ outcome_in text
unfolding outcome_in
failure_read text rest e = sym (ap outcome_in e)

pub result_read : (text : List ℕ) → ((rest : List ℕ) → text ≢ 33 ∷ rest) → option_map (λ (v : Value). Brought v) (value_in text) ≡ outcome_in text
unfolding outcome_in
result_read [] none = refl
result_read (b ∷ text) none =
    let other : (b == 33) ≡ false = not_true (b == 33) (λ e. none text (ap (λ (x : ℕ). x ∷ text) (eqb_equal b 33 e))) in
    ap (λ (t : Bool). if t then failure_with text else option_map (λ (v : Value). Brought v) (value_in (b ∷ text))) (sym other)
