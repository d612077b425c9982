-- What is read is spelled, and what is spelled is read.
use Rattle.std.proofs.Common.{◌≡◌, ℕ, suc, ◌+◌, ◌-◌, ◌^◌, ◌≤◌, min, Bool, true, false, not, cond, List, [], ◌∷◌, ◌++◌, length, drop, Option, Some, None, refl, sym, ap, ◌∙◌, subst, arith, inl, inr, append-nil, append_assoc, get_or, take-append-drop}
use Rattle.std.specs.Prelude.{◌==◌, ◌||◌, ◌&&◌, nat_lt, nat_le, option_map, if◌then◌else◌, ◌⊎◌, codes, IfSome, unwrap_or, position}
use Rattle.std.specs.Char.{is_ascii_digit}
use Rattle.std.specs.List.{list_all, position_or_len}
use Rattle.std.specs.Str.Parse.{digits_value}
use Rattle.std.proofs.lemmas.Bool.{and_parts, and_from, lt-ltb, ltb-true, ltb-false, le-leb, leb-true, cond_both, false_from_ne_true, or_cases, or_from}
use Rattle.std.proofs.lemmas.Bool.Decides.{nat_tests}
use Rattle.std.proofs.lemmas.List.{take_at, drop_at}
use Rattle.std.proofs.lemmas.List.Folds.{list_all-append}
use Rattle.std.proofs.lemmas.List.Sums.{prefix_len-le-length}
use Rattle.std.proofs.lemmas.Slice.Eq.{bytes_eq-Decides}
use Rattle.std.specs.Str.{bytes_eq}
use Rattle.std.proofs.lemmas.Option.{none-some, same_Some, cond_some}
use Rattle.canary_decimal.proofs.Digits.{short_value}
use Rattle.canary_decimal.specs.declared.reading.Reading.{Reading}
use Rattle.canary_decimal.specs.declared.reading.Reading.TheVariants.{Number, NotANumber, Infinite, MinusInfinite}
use Rattle.canary_decimal.specs.Exactness.{Fraction, decimal_of}
use Rattle.canary_decimal.specs.Spelling.{IsDigits, IsShort, IsPower, IsExponent, IsMantissa, IsUnsignedText, IsTextOf, ReadsAs}
use Rattle.canary_decimal.specs.Reader.{is_digits, is_either, up_to, from, power_of, zeros, places, zeros_and_places, exponent_of, fraction_of, with_fraction, digits_of, made, unsigned, spelled, word_of, or_number, reading_of, ReadsWhatIsSpelled}

-- ---- the first of two bytes

-- no byte passes
abbrev IsWithout : (ℕ → Bool) → List ℕ → Type 0
IsWithout p xs = list_all (λ (b : ℕ). not (p b)) xs ≡ true

-- the first byte, if there is one, passes
abbrev pub Begins : (ℕ → Bool) → List ℕ → Type 0
Begins p [] = Unit {0}
Begins p (b ∷ xs) = p b ≡ true

first_at : (p : ℕ → Bool) (front back : List ℕ) → IsWithout p front → Begins p back → length front ≡ position_or_len p (front ++ back)
first_at p [] [] none begins = refl
first_at p [] (b ∷ back) none begins = ap (λ (t : Bool). cond (not t) (1 + position_or_len p back) 0) (sym begins)
first_at p (b ∷ front) back none begins =
    let parts = and_parts (not (p b)) (list_all (λ (c : ℕ). not (p c)) front) none in
    let first = ap (λ (t : Bool). cond t (1 + position_or_len p (front ++ back)) 0) parts.0 in
    let rest = first_at p front back parts.1 begins in
    omega arith

begins_there : (p : ℕ → Bool) (xs : List ℕ) → Begins p (drop (position_or_len p xs) xs)
begins_there p [] = tt
begins_there p (b ∷ xs) =
    elim (p b) as (λ t. p b ≡ t → Begins p (drop (cond (not t) (1 + position_or_len p xs) 0) (b ∷ xs))) [
      | true ↦ λ e. e
      | false ↦ λ _. let more : suc (position_or_len p xs) ≡ 1 + position_or_len p xs = omega arith in subst (λ (k : ℕ). Begins p (drop k (b ∷ xs))) more (begins_there p xs)
    ] refl

-- the text is split there
split_there : (first second : ℕ) (text front back : List ℕ) → text ≡ front ++ back → IsWithout (is_either first second) front → Begins (is_either first second) back → (up_to first second text ≡ front) × (from first second text ≡ back)
split_there first second text front back e none begins =
    let p = is_either first second in
    let at = first_at p front back none begins in
    (ap (up_to first second) e ∙ take_at front back (position_or_len p (front ++ back)) at, ap (from first second) e ∙ drop_at front back (position_or_len p (front ++ back)) at)

joined_again : (first second : ℕ) (text : List ℕ) → text ≡ up_to first second text ++ from first second text
joined_again first second text = sym (take-append-drop (position_or_len (is_either first second) text) text)

digit_no_mark : (b : ℕ) → is_ascii_digit b ≡ true → not (is_either 101 69 b) ≡ true
digit_no_mark b d = grind (arith, nat_tests)

pub digit_no_point : (b : ℕ) → is_ascii_digit b ≡ true → not (is_either 46 46 b) ≡ true
digit_no_point b d = grind (arith, nat_tests)

point_no_mark : not (is_either 101 69 46) ≡ true
point_no_mark = refl

pub each_without : (p : ℕ → Bool) → ((b : ℕ) → is_ascii_digit b ≡ true → not (p b) ≡ true) → (ds : List ℕ) → list_all is_ascii_digit ds ≡ true → IsWithout p ds
each_without p f [] all = refl
each_without p f (d ∷ ds) all =
    let parts = and_parts (is_ascii_digit d) (list_all is_ascii_digit ds) all in
    and_from (not (p d)) (list_all (λ (b : ℕ). not (p b)) ds) (f d parts.0) (each_without p f ds parts.1)

mark_is : (b : ℕ) → is_either 101 69 b ≡ true → (b ≡ 101) ⊎ (b ≡ 69)
mark_is b e = grind (arith, nat_tests)

is_mark : (b : ℕ) → (b ≡ 101) ⊎ (b ≡ 69) → is_either 101 69 b ≡ true
is_mark b (inl e) = ap (is_either 101 69) e
is_mark b (inr e) = ap (is_either 101 69) e

point_is : (b : ℕ) → is_either 46 46 b ≡ true → b ≡ 46
point_is b e = grind (arith, nat_tests)

-- ---- digits

pub digits_from : (ds : List ℕ) → is_digits ds ≡ true → IsDigits ds
digits_from ds e =
    let parts = and_parts (nat_lt 0 (length ds)) (list_all is_ascii_digit ds) e in
    (ltb-true 0 (length ds) parts.0, parts.1)

pub is_digits_so : (ds : List ℕ) → IsDigits ds → is_digits ds ≡ true
is_digits_so ds h = and_from (nat_lt 0 (length ds)) (list_all is_ascii_digit ds) (lt-ltb 0 (length ds) h.0) h.1

-- ---- exponents

power_found : (ds : List ℕ) → IsShort ds → power_of ds ≡ Some (digits_value 10 ds)
power_found ds h =
    let test = and_from (is_digits ds) (nat_le (length ds) 4) (is_digits_so ds h.0) (le-leb (length ds) 4 h.1) in
    ap (λ (t : Bool). if t then Some (digits_value 10 ds) else None) test

power_sound : (ds : List ℕ) (n : ℕ) → power_of ds ≡ Some n → IsShort ds × (n ≡ digits_value 10 ds)
power_sound ds n e =
    let found = cond_some (is_digits ds && nat_le (length ds) 4) (digits_value 10 ds) n e in
    let parts = and_parts (is_digits ds) (nat_le (length ds) 4) found.0 in
    ((digits_from ds parts.0, leb-true (length ds) 4 parts.1), sym found.1)

-- the number of few digits, as far as a `u64` goes
pub power_is : (ds : List ℕ) (n : ℕ) → is_digits ds ≡ true → length ds ≤ 4 → n ≡ min (2 ^ 64 - 1) (digits_value 10 ds) → (Some n ≡ power_of ds) × (n ≤ 9999)
power_is ds n digits few e =
    let parts = digits_from ds digits in
    let small : digits_value 10 ds ≤ 9999 = short_value ds parts.1 few in
    let same : n ≡ digits_value 10 ds = omega arith in
    (ap (λ (k : ℕ). Some k) same ∙ sym (power_found ds (parts, few)), omega arith)

-- of what follows from an option that was mapped
from_map : {A B P : Type 0} (f : A → B) (o : Option A) (y : B) → option_map f o ≡ Some y → ((x : A) → o ≡ Some x → f x ≡ y → P) → P
from_map f None y e k = absurd (none-some y e)
from_map f (Some x) y e k = k x refl (same_Some (f x) y e)

places_sound : (ds : List ℕ) (z m : ℕ) → places (power_of ds) ≡ Some (z, m) → IsShort ds × ((z ≡ 0) × (m ≡ digits_value 10 ds))
places_sound ds z m e =
    from_map (λ (n : ℕ). (0, n)) (power_of ds) (z, m) e (λ n found same.
    let h = power_sound ds n found in
    (h.0, (ap (λ (r : ℕ × ℕ). r.0) (sym same), ap (λ (r : ℕ × ℕ). r.1) (sym same) ∙ h.1)))

zeros_sound : (ds : List ℕ) (z m : ℕ) → zeros (power_of ds) ≡ Some (z, m) → IsShort ds × ((z ≡ digits_value 10 ds) × (m ≡ 0))
zeros_sound ds z m e =
    from_map (λ (n : ℕ). (n, 0)) (power_of ds) (z, m) e (λ n found same.
    let h = power_sound ds n found in
    (h.0, (ap (λ (r : ℕ × ℕ). r.0) (sym same) ∙ h.1, ap (λ (r : ℕ × ℕ). r.1) (sym same))))

power_read : (text : List ℕ) (z m : ℕ) → zeros_and_places text ≡ Some (z, m) → IsPower text z m
power_read [] z m e = absurd (none-some (z, m) e)
power_read (b ∷ ds) z m e =
    elim (b == 45) as (λ t. b == 45 ≡ t → (if t then places (power_of ds) else (if b == 43 then zeros (power_of ds) else zeros (power_of (b ∷ ds)))) ≡ Some (z, m) → IsPower (b ∷ ds) z m) [
      | true ↦ λ at found.
          let h = places_sound ds z m found in
          let minus : b ≡ 45 = grind (arith, nat_tests) in
          (ds, h.0, inl (ap (λ (c : ℕ). c ∷ ds) minus, h.1.0, h.1.1))
      | false ↦ λ _ other.
          elim (b == 43) as (λ t. b == 43 ≡ t → (if t then zeros (power_of ds) else zeros (power_of (b ∷ ds))) ≡ Some (z, m) → IsPower (b ∷ ds) z m) [
            | true ↦ λ at found.
                let h = zeros_sound ds z m found in
                let plus : b ≡ 43 = grind (arith, nat_tests) in
                (ds, h.0, inr (inl (ap (λ (c : ℕ). c ∷ ds) plus), h.1.0, h.1.1))
            | false ↦ λ _ found.
                let h = zeros_sound (b ∷ ds) z m found in
                (b ∷ ds, h.0, inr (inr refl, h.1.0, h.1.1))
          ] refl other
    ] refl e

not_45 : (b : ℕ) → is_ascii_digit b ≡ true → b == 45 ≡ false
not_45 b d = grind (arith, nat_tests)

not_43 : (b : ℕ) → is_ascii_digit b ≡ true → b == 43 ≡ false
not_43 b d = grind (arith, nat_tests)

-- digits with no sign
plain_power : (ds : List ℕ) → IsShort ds → zeros_and_places ds ≡ Some (digits_value 10 ds, 0)
plain_power [] h = absurd (omega (arith, h.0.0))
plain_power (d ∷ ds) h =
    let digit = (and_parts (is_ascii_digit d) (list_all is_ascii_digit ds) h.0.1).0 in
    let all : Option (ℕ × ℕ) = zeros (power_of (d ∷ ds)) in
    ap (λ (t : Bool). if t then places (power_of ds) else (if d == 43 then zeros (power_of ds) else all)) (not_45 d digit)
    ∙ ap (λ (t : Bool). if t then zeros (power_of ds) else all) (not_43 d digit)
    ∙ ap zeros (power_found (d ∷ ds) h)

pair_is : (a b z m : ℕ) → z ≡ a → m ≡ b → ◌≡◌ {A = Option (ℕ × ℕ)} (Some (a, b)) (Some (z, m))
pair_is a b z m e f = ap (λ (x : ℕ). Some (x, b)) (sym e) ∙ ap (λ (x : ℕ). Some (z, x)) (sym f)

power_again : (text : List ℕ) (z m : ℕ) → IsPower text z m → zeros_and_places text ≡ Some (z, m)
power_again text z m (ds, h, inl (e, none, some)) =
    ap zeros_and_places e ∙ ap places (power_found ds h) ∙ pair_is 0 (digits_value 10 ds) z m none some
power_again text z m (ds, h, inr (inl e, some, none)) =
    ap zeros_and_places e ∙ ap zeros (power_found ds h) ∙ pair_is (digits_value 10 ds) 0 z m some none
power_again text z m (ds, h, inr (inr e, some, none)) =
    ap zeros_and_places e ∙ plain_power ds h ∙ pair_is (digits_value 10 ds) 0 z m some none

exponent_read : (back : List ℕ) (z m : ℕ) → Begins (is_either 101 69) back → exponent_of back ≡ Some (z, m) → IsExponent back z m
exponent_read [] z m begins e = let same = same_Some (0, 0) (z, m) e in (ap (λ (r : ℕ × ℕ). r.0) (sym same), ap (λ (r : ℕ × ℕ). r.1) (sym same))
exponent_read (b ∷ text) z m begins e = (mark_is b begins, power_read text z m e)

exponent_again : (back : List ℕ) (z m : ℕ) → IsExponent back z m → (exponent_of back ≡ Some (z, m)) × Begins (is_either 101 69) back
exponent_again [] z m h = (pair_is 0 0 z m h.0 h.1, tt)
exponent_again (b ∷ text) z m h = (power_again text z m h.1, is_mark b h.0)

-- ---- mantissas

fraction_read : (back fraction : List ℕ) → Begins (is_either 46 46) back → fraction_of back ≡ Some fraction → ((back ≡ []) × (fraction ≡ [])) ⊎ ((back ≡ 46 ∷ fraction) × IsDigits fraction)
fraction_read [] fraction begins e = inl (refl, sym (same_Some [] fraction e))
fraction_read (b ∷ ds) fraction begins e =
    let found = cond_some (is_digits ds) ds fraction e in
    inr (ap (λ (c : ℕ). c ∷ ds) (point_is b begins) ∙ ap (λ (r : List ℕ). 46 ∷ r) found.1, subst IsDigits found.1 (digits_from ds found.0))

mantissa_by : (text whole back fraction : List ℕ) → text ≡ whole ++ back → IsDigits whole → ((back ≡ []) × (fraction ≡ [])) ⊎ ((back ≡ 46 ∷ fraction) × IsDigits fraction) → IsMantissa text whole fraction
mantissa_by text whole back fraction e h (inl k) = (h, inl (e ∙ ap (λ (r : List ℕ). whole ++ r) k.0 ∙ append-nil whole, k.1))
mantissa_by text whole back fraction e h (inr k) = (h, inr (e ∙ ap (λ (r : List ℕ). whole ++ r) k.0, k.1))

pair_parts : {A B : Type 0} (a x : A) (b y : B) → ◌≡◌ {A = A × B} (a, b) (x, y) → (a ≡ x) × (b ≡ y)
pair_parts {A} {B} a x b y e = (ap (λ (r : A × B). r.0) e, ap (λ (r : A × B). r.1) e)

mantissa_read : (text whole fraction : List ℕ) → digits_of text ≡ Some (whole, fraction) → IsMantissa text whole fraction
mantissa_read text whole fraction e =
    let front : List ℕ = up_to 46 46 text in
    let back : List ℕ = from 46 46 text in
    let begins = begins_there (is_either 46 46) text in
    elim (is_digits front) as (λ t. is_digits front ≡ t → (if t then option_map {U = List ℕ × List ℕ} (λ (ds : List ℕ). (front, ds)) (fraction_of back) else None) ≡ Some (whole, fraction) → IsMantissa text whole fraction) [
      | true ↦ λ digits found.
          from_map {B = List ℕ × List ℕ} (λ (ds : List ℕ). (front, ds)) (fraction_of back) (whole, fraction) found (λ ds it same.
          let parts = pair_parts front whole ds fraction same in
          mantissa_by text whole back fraction
          (joined_again 46 46 text ∙ ap (λ (r : List ℕ). r ++ back) parts.0)
          (subst IsDigits parts.0 (digits_from front digits))
          (fraction_read back fraction begins (it ∙ ap (λ (r : List ℕ). Some r) parts.1)))
      | false ↦ λ _ none. absurd (none-some (whole, fraction) none)
    ] refl e

with_digits : (whole : List ℕ) (fraction : Option (List ℕ)) → IsDigits whole → with_fraction whole fraction ≡ option_map {U = List ℕ × List ℕ} (λ (ds : List ℕ). (whole, ds)) fraction
with_digits whole fraction h = ap (λ (t : Bool). if t then option_map {U = List ℕ × List ℕ} (λ (ds : List ℕ). (whole, ds)) fraction else None) (is_digits_so whole h)

digits_there : (text whole back fraction : List ℕ) → text ≡ whole ++ back → IsDigits whole → Begins (is_either 46 46) back → fraction_of back ≡ Some fraction → digits_of text ≡ Some (whole, fraction)
digits_there text whole back fraction e h begins found =
    let parts = split_there 46 46 text whole back e (each_without (is_either 46 46) digit_no_point whole h.1) begins in
    ap (λ (r : List ℕ). with_fraction r (fraction_of (from 46 46 text))) parts.0
    ∙ ap (λ (r : List ℕ). with_fraction whole (fraction_of r)) parts.1
    ∙ ap (with_fraction whole) found
    ∙ with_digits whole (Some fraction) h

mantissa_again : (text whole fraction : List ℕ) → IsMantissa text whole fraction → (digits_of text ≡ Some (whole, fraction)) × IsWithout (is_either 101 69) text
mantissa_again text whole fraction (h, inl (e, none)) = (
  digits_there text whole [] fraction (e ∙ sym (append-nil whole)) h tt (ap (λ (r : List ℕ). Some r) (sym none)),
  subst (IsWithout (is_either 101 69)) (sym e) (each_without (is_either 101 69) digit_no_mark whole h.1),
)
mantissa_again text whole fraction (h, inr (e, k)) =
    let found : fraction_of (46 ∷ fraction) ≡ Some fraction = ap (λ (t : Bool). if t then Some fraction else None) (is_digits_so fraction k) in
    let behind = and_from (not (is_either 101 69 46)) (list_all (λ (b : ℕ). not (is_either 101 69 b)) fraction) point_no_mark (each_without (is_either 101 69) digit_no_mark fraction k.1) in
    let front = each_without (is_either 101 69) digit_no_mark whole h.1 in (
      digits_there text whole (46 ∷ fraction) fraction e h refl found,
      ap (list_all (λ (b : ℕ). not (is_either 101 69 b))) e ∙ list_all-append (λ (b : ℕ). not (is_either 101 69 b)) whole (46 ∷ fraction)
          ∙ and_from (list_all (λ (b : ℕ). not (is_either 101 69 b)) whole) (list_all (λ (b : ℕ). not (is_either 101 69 b)) (46 ∷ fraction)) front behind,
    )

-- ---- whole texts

made_sound : (minus : Bool) (digits : Option (List ℕ × List ℕ)) (power : Option (ℕ × ℕ)) (x : Fraction) → made minus digits power ≡ Some x → (whole : List ℕ) × (fraction : List ℕ) × (z : ℕ) × (m : ℕ) × (digits ≡ Some (whole, fraction)) × (power ≡ Some (z, m)) × (x ≡ decimal_of minus whole fraction z m)
made_sound minus None power x e = absurd (none-some x e)
made_sound minus (Some ds) None x e = absurd (none-some x e)
made_sound minus (Some ds) (Some p) x e = (ds.0, ds.1, p.0, p.1, refl, refl, sym (same_Some (decimal_of minus ds.0 ds.1 p.0 p.1) x e))

unsigned_read : (minus : Bool) (text : List ℕ) (x : Fraction) → unsigned minus text ≡ Some x → IsUnsignedText text minus x
unsigned_read minus text x e =
    let front : List ℕ = up_to 101 69 text in
    let back : List ℕ = from 101 69 text in
    let (whole, fraction, z, m, digits, power, is) = made_sound minus (digits_of front) (exponent_of back) x e in
    (front, back, joined_again 101 69 text, whole, fraction, mantissa_read front whole fraction digits, z, m, exponent_read back z m (begins_there (is_either 101 69) text) power, is)

unsigned_again : (minus : Bool) (text : List ℕ) (x : Fraction) → IsUnsignedText text minus x → unsigned minus text ≡ Some x
unsigned_again minus text x (front, back, e, whole, fraction, mantissa, z, m, exponent, is) =
    let digits = mantissa_again front whole fraction mantissa in
    let power = exponent_again back z m exponent in
    let parts = split_there 101 69 text front back e digits.1 power.1 in
    ap (λ (r : List ℕ). made minus (digits_of r) (exponent_of (from 101 69 text))) parts.0
    ∙ ap (λ (r : List ℕ). made minus (digits_of front) (exponent_of r)) parts.1
    ∙ ap (λ (r : Option (List ℕ × List ℕ)). made minus r (exponent_of back)) digits.0
    ∙ ap (made minus (Some (whole, fraction))) power.0
    ∙ ap (λ (y : Fraction). Some y) (sym is)

spelled_sound : (text : List ℕ) (x : Fraction) → spelled text ≡ Some x → IsTextOf text x
spelled_sound [] x e = inl (unsigned_read false [] x e)
spelled_sound (b ∷ text) x e =
    elim (b == 45) as (λ t. b == 45 ≡ t → (if t then unsigned true text else unsigned false (b ∷ text)) ≡ Some x → IsTextOf (b ∷ text) x) [
      | true ↦ λ at found.
          let minus : b ≡ 45 = grind (arith, nat_tests) in
          inr (text, ap (λ (c : ℕ). c ∷ text) minus, unsigned_read true text x found)
      | false ↦ λ _ found. inl (unsigned_read false (b ∷ text) x found)
    ] refl e

-- a mantissa begins with a digit
begins_with_digit : (whole rest : List ℕ) (b : ℕ) (text : List ℕ) → IsDigits whole → b ∷ text ≡ whole ++ rest → b == 45 ≡ false
begins_with_digit [] rest b text h e = absurd (omega (arith, h.0))
begins_with_digit (d ∷ ds) rest b text h e =
    let same : b ≡ d = ap (λ (l : List ℕ). get_or l 0 0) e in
    ap (λ (c : ℕ). c == 45) same ∙ not_45 d (and_parts (is_ascii_digit d) (list_all is_ascii_digit ds) h.1).0

first_digit : (b : ℕ) (text front back whole fraction : List ℕ) → b ∷ text ≡ front ++ back → IsMantissa front whole fraction → b == 45 ≡ false
first_digit b text front back whole fraction e (h, inl (k, none)) = begins_with_digit whole back b text h (e ∙ ap (λ (r : List ℕ). r ++ back) k)
first_digit b text front back whole fraction e (h, inr (k, some)) = begins_with_digit whole ((46 ∷ fraction) ++ back) b text h (e ∙ ap (λ (r : List ℕ). r ++ back) k ∙ append_assoc whole (46 ∷ fraction) back)

-- no text without a sign begins with one
no_sign : (b : ℕ) (text : List ℕ) (minus : Bool) (x : Fraction) → IsUnsignedText (b ∷ text) minus x → b == 45 ≡ false
no_sign b text minus x (front, back, e, whole, fraction, mantissa, z, m, exponent, is) = first_digit b text front back whole fraction e mantissa

spelled_complete : (text : List ℕ) (x : Fraction) → IsTextOf text x → spelled text ≡ Some x
spelled_complete text x (inr (rest, e, h)) = ap spelled e ∙ unsigned_again true rest x h
spelled_complete [] x (inl h) = unsigned_again false [] x h
spelled_complete (b ∷ text) x (inl h) =
    ap (λ (t : Bool). if t then unsigned true text else unsigned false (b ∷ text)) (no_sign b text false x h) ∙ unsigned_again false (b ∷ text) x h

pub reads_what_is_spelled : ReadsWhatIsSpelled
reads_what_is_spelled text x = (spelled_sound text x, spelled_complete text x)

pub decimal_sound : (found : Option Fraction) (text : List ℕ) → found ≡ spelled text → IfSome found (λ x. IsTextOf text x)
decimal_sound None text e = tt
decimal_sound (Some x) text e = spelled_sound text x (sym e)

pub decimal_complete : (found : Option Fraction) (text : List ℕ) → found ≡ spelled text → (x : Fraction) → IsTextOf text x → found ≡ Some x
decimal_complete found text e x h = e ∙ spelled_complete text x h

-- the place of the first byte that passes, or the length
pub place_is : (p : ℕ → Bool) (xs : List ℕ) → unwrap_or (position p xs) (length xs) ≡ position_or_len p xs
place_is p xs =
    cond_both (nat_lt (position_or_len p xs) (length xs)) (Some (position_or_len p xs)) None (λ o. unwrap_or o (length xs) ≡ position_or_len p xs)
    (λ _. refl)
    (λ e. let past : length xs ≤ position_or_len p xs = ltb-false (position_or_len p xs) (length xs) e in omega (arith, prefix_len-le-length (λ b. not (p b)) xs))

-- ---- words

either_word : (text : List ℕ) → (bytes_eq text (codes "Inf") ≡ true) ⊎ (bytes_eq text (codes "+Inf") ≡ true) → ReadsAs text Infinite
either_word text (inl is) = inl ((bytes_eq-Decides text (codes "Inf")).0 is)
either_word text (inr is) = inr ((bytes_eq-Decides text (codes "+Inf")).0 is)

word_sound : (text : List ℕ) (r : Reading) → word_of text ≡ Some r → ReadsAs text r
word_sound text r e =
    elim (bytes_eq text (codes "NaN")) as (λ t. bytes_eq text (codes "NaN") ≡ t → (if t then Some NotANumber else (if bytes_eq text (codes "Inf") || bytes_eq text (codes "+Inf") then Some Infinite else (if bytes_eq text (codes "-Inf") then Some MinusInfinite else None))) ≡ Some r → ReadsAs text r) [
      | true ↦ λ is found. subst (ReadsAs text) (same_Some NotANumber r found) ((bytes_eq-Decides text (codes "NaN")).0 is)
      | false ↦ λ _ other.
          elim (bytes_eq text (codes "Inf") || bytes_eq text (codes "+Inf")) as (λ t. (bytes_eq text (codes "Inf") || bytes_eq text (codes "+Inf")) ≡ t → (if t then Some Infinite else (if bytes_eq text (codes "-Inf") then Some MinusInfinite else None)) ≡ Some r → ReadsAs text r) [
            | true ↦ λ is found. subst (ReadsAs text) (same_Some Infinite r found) (either_word text (or_cases (bytes_eq text (codes "Inf")) (bytes_eq text (codes "+Inf")) is))
            | false ↦ λ _ last.
                let found = cond_some (bytes_eq text (codes "-Inf")) MinusInfinite r last in
                subst (ReadsAs text) found.1 ((bytes_eq-Decides text (codes "-Inf")).0 found.0)
          ] refl other
    ] refl e

-- a decimal's text is no word
no_word : (text word : List ℕ) (x : Fraction) → IsTextOf text x → spelled word ≡ None → bytes_eq text word ≡ false
no_word text word x h none =
    false_from_ne_true (bytes_eq text word) (λ is. none-some x (sym none ∙ ap spelled (sym ((bytes_eq-Decides text word).0 is)) ∙ spelled_complete text x h))

number_no_word : (text : List ℕ) (x : Fraction) → IsTextOf text x → word_of text ≡ None
number_no_word text x h =
    let nan = no_word text (codes "NaN") x h refl in
    let inf = or_from (bytes_eq text (codes "Inf")) (bytes_eq text (codes "+Inf")) (no_word text (codes "Inf") x h refl) (no_word text (codes "+Inf") x h refl) in
    let minus = no_word text (codes "-Inf") x h refl in
    let third : Option Reading = if bytes_eq text (codes "-Inf") then Some MinusInfinite else None in
    let second : Option Reading = if bytes_eq text (codes "Inf") || bytes_eq text (codes "+Inf") then Some Infinite else third in
    ap (λ (t : Bool). if t then Some NotANumber else second) nan
    ∙ ap (λ (t : Bool). if t then Some Infinite else third) inf
    ∙ ap (λ (t : Bool). if t then Some MinusInfinite else None) minus

or_sound : (text : List ℕ) (word : Option Reading) (number : Option Fraction) (r : Reading) → word ≡ word_of text → number ≡ spelled text → or_number word number ≡ Some r → ReadsAs text r
or_sound text (Some w) number r e f is = subst (ReadsAs text) (same_Some w r is) (word_sound text w (sym e))
or_sound text None None r e f is = absurd (none-some r is)
or_sound text None (Some x) r e f is = subst (ReadsAs text) (same_Some (Number x) r is) (spelled_sound text x (sym f))

pub reading_sound : (found : Option Reading) (text : List ℕ) → found ≡ reading_of text → IfSome found (λ r. ReadsAs text r)
reading_sound None text e = tt
reading_sound (Some r) text e = or_sound text (word_of text) (spelled text) r refl refl (sym e)

reading_again : (text : List ℕ) (r : Reading) → ReadsAs text r → reading_of text ≡ Some r
reading_again text (Number x) h =
    ap (λ (w : Option Reading). or_number w (spelled text)) (number_no_word text x h) ∙ ap (or_number None) (spelled_complete text x h)
reading_again text NotANumber h = ap reading_of h
reading_again text Infinite (inl h) = ap reading_of h
reading_again text Infinite (inr h) = ap reading_of h
reading_again text MinusInfinite h = ap reading_of h

pub reading_complete : (found : Option Reading) (text : List ℕ) → found ≡ reading_of text → (r : Reading) → ReadsAs text r → found ≡ Some r
reading_complete found text e r h = e ∙ reading_again text r h
