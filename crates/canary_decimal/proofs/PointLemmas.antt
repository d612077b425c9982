-- Whole numbers that are written with a point.
use Rattle.std.proofs.Common.{rules, ◌≡◌, ℕ, ◌+◌, ◌-◌, ◌*◌, ◌^◌, ◌<◌, ◌≤◌, min, ℤ, pos, Bool, true, false, List, [], ◌∷◌, ◌++◌, length, refl, sym, ap, ◌∙◌, subst, inl, inr, arith, IsTrue, length-append, append-nil, add-one}
use Rattle.std.specs.Prelude.{◌≢◌, ◌/◌, ◌%◌, ◌⊎◌, ◌*ℤ◌, int_lt, if◌then◌else◌}
use Rattle.std.specs.Char.{is_ascii_digit, digit_value}
use Rattle.std.specs.List.{list_all}
use Rattle.std.specs.Fmt.{decimal}
use Rattle.std.specs.Int.RustNames.{unsigned_abs}
use Rattle.std.specs.Str.Parse.{digits_value}
use Rattle.std.proofs.lemmas.Bool.{cases_lt, and_from}
use Rattle.std.proofs.lemmas.Bool.Decides.{nat_tests}
use Rattle.std.proofs.lemmas.Fmt.{digits_decimal, digits_value-decimal, decimal_nonempty}
use Rattle.std.proofs.lemmas.List.Folds.{list_all-append}
use Rattle.std.proofs.lemmas.Nat.{div-add-mod', mod-mul-add}
use Rattle.std.proofs.lemmas.Str.Parse.{IsNumeralModel, numerals_by_value}
use Rattle.std.proofs.Math.Nat.{add-mul, mul_assoc, mul-le-mul_right, mul_right_comm, pow-suc, pow-le-pow_right, div-le_self}
use Rattle.canary_decimal.specs.Exactness.{Fraction, signed, decimal_of}
use Rattle.canary_decimal.specs.Spelling.{IsDigits, IsUnsignedText, IsTextOf}
use Rattle.canary_decimal.specs.Points.{IsFraction, IsBehind, IsWrittenAs, Spells, front_text}
use Rattle.canary_decimal.proofs.Alike.{pow_over_zero}
use Rattle.canary_decimal.proofs.Digits.{digit_is, after_append, after_is}
use Rattle.canary_decimal.proofs.Shorts.{with_its_sign}
use Rattle.canary_decimal.proofs.Signs.{signed_times}

-- a power of ten that fits
pub unit_is : (n m : ℕ) → n ≤ 18 → m ≡ min (2 ^ 64 - 1) (1 * 10 ^ n) → (m ≡ 10 ^ n) × ((m ≤ 10 ^ 18) × (0 < m))
unit_is n m h e =
    let more : 10 ^ n ≤ 10 ^ 18 = pow-le-pow_right {n = 10} (omega arith) h in
    let least = pow_over_zero n in
    let one : 1 * 10 ^ n ≡ 10 ^ n = omega arith in
    (omega arith, (omega arith, omega arith))

-- ---- the digits after the point, one after another

-- ds are the first i digits of part over 10^n, of which rest is left; or all up to the last one
-- that is not 0
pub record IsSoFar (ds : List ℕ) (rest part n i : ℕ) : Type 0 where
  pub digits : IsTrue (list_all is_ascii_digit ds)
  pub value : digits_value 10 ds * 10 ^ n + rest ≡ part * 10 ^ length ds
  pub below : rest < 10 ^ n
  pub few : length ds ≤ i
  pub going : 0 < rest → length ds ≡ i
  pub ended : rest ≡ 0 → (0 < length ds) × (digits_value 10 ds % 10 ≢ 0)

pub none_yet : (part n : ℕ) → 0 < part → part < 10 ^ n → IsSoFar [] part part n 0
none_yet part n some h = record {
  digits = refl;
  value = omega arith;
  below = h;
  few = omega arith;
  going = λ _. refl;
  ended = λ none. absurd (omega arith);
}

digit_of : (d : ℕ) → d < 10 → is_ascii_digit (48 + d) ≡ true
digit_of d h = grind (arith, nat_tests)

value_more : (ds : List ℕ) (d : ℕ) → d < 10 → digits_value 10 (ds ++ (48 + d) ∷ []) ≡ digits_value 10 ds * 10 + d
value_more ds d h =
    let digit : digit_value (48 + d) ≡ 48 + d - 48 = digit_is (48 + d) (omega arith) (omega arith) in
    let same : digit_value (48 + d) ≡ d = digit ∙ (let it : 48 + d - 48 ≡ d = omega arith in it) in
    after_append 0 ds ((48 + d) ∷ []) ∙ ap (λ (k : ℕ). digits_value 10 ds * 10 + k) same

pub digit_below : (rest u : ℕ) → 0 < u → rest < u → rest * 10 / u < 10
digit_below rest u some h =
    let split = div-add-mod' (rest * 10) u in
    elim (cases_lt (rest * 10 / u) 10) [
      | inl less ↦ less
      | inr more ↦ absurd (let it : 10 * u ≤ rest * 10 / u * u = mul-le-mul_right u more in omega arith)
    ]

not_ended : (v d rest u r : ℕ) → d < 10 → 0 < rest → rest * 10 ≡ d * u + r → r ≡ 0 → (v * 10 + d) % 10 ≢ 0
not_ended v d rest u r small some split none e =
    let same : (v * 10 + d) % 10 ≡ d = mod-mul-add v 10 d small in
    let zero_digit : d ≡ 0 = sym same ∙ e in
    let nothing : d * u ≡ 0 = ap (λ (k : ℕ). k * u) zero_digit ∙ (let it : 0 * u ≡ 0 = omega arith in it) in
    omega arith

-- one digit more
step : (ds : List ℕ) (rest part n i d r : ℕ) → IsSoFar ds rest part n i → 0 < rest → d < 10 → r < 10 ^ n → rest * 10 ≡ d * 10 ^ n + r → IsSoFar (ds ++ (48 + d) ∷ []) r part n (i + 1)
step ds rest part n i d r h some small below split =
    let u : ℕ = 10 ^ n in
    let v : ℕ = digits_value 10 ds in
    let p : ℕ = 10 ^ length ds in
    let longer : length (ds ++ (48 + d) ∷ []) ≡ length ds + 1 = length-append ds ((48 + d) ∷ []) in
    let value = value_more ds d small in
    let e1 : (v * 10 + d) * u ≡ v * 10 * u + d * u = add-mul (v * 10) d u in
    let e2 : v * 10 * u ≡ v * u * 10 = mul_right_comm v 10 u in
    let e3 : part * 10 ^ length (ds ++ (48 + d) ∷ []) ≡ part * p * 10 = ap (λ (k : ℕ). part * 10 ^ k) (longer ∙ add-one (length ds)) ∙ ap (λ (k : ℕ). part * k) (pow-suc 10 (length ds)) ∙ sym (mul_assoc part p 10) in
    let e4 : v * u + rest ≡ part * p = h.value in
    record {
      digits = list_all-append is_ascii_digit ds ((48 + d) ∷ []) ∙ and_from (list_all is_ascii_digit ds) (list_all is_ascii_digit ((48 + d) ∷ [])) h.digits (and_from (is_ascii_digit (48 + d)) true (digit_of d small) refl);
      value = ap (λ (k : ℕ). k * u + r) value ∙ (let it : (v * 10 + d) * u + r ≡ part * p * 10 = omega arith in it) ∙ sym e3;
      below = below;
      few = omega (arith, h.few);
      going = λ _. longer ∙ ap (λ (k : ℕ). k + 1) (h.going some);
      ended = λ none. (omega arith, subst (λ (k : ℕ). k % 10 ≢ 0) (sym value) (not_ended v d rest u r small some split none));
    }

one_digit_more : (ds : List ℕ) (rest part n i u : ℕ) → u ≡ 10 ^ n → 0 < u → IsSoFar ds rest part n i → 0 < rest → IsSoFar (ds ++ (48 + rest * 10 / u) ∷ []) (rest * 10 % u) part n (i + 1)
one_digit_more ds rest part n i u e positive h some =
    let split : rest * 10 / u * u + rest * 10 % u ≡ rest * 10 = div-add-mod' (rest * 10) u in
    let below : rest * 10 % u < u = omega arith in
    let small = digit_below rest u positive (omega (arith, h.below)) in
    step ds rest part n i (rest * 10 / u) (rest * 10 % u) h some small (omega arith) (sym split ∙ ap (λ (k : ℕ). rest * 10 / u * k + rest * 10 % u) e)

-- the same of what the text and the rest are then
pub digit_taken : (ds after : List ℕ) (rest more part n i u digit : ℕ) → u ≡ 10 ^ n → 0 < u → IsSoFar ds rest part n i → 0 < rest → digit ≡ 48 + rest * 10 / u → after ≡ ds ++ digit ∷ [] → more ≡ rest * 10 % u → IsSoFar after more part n (i + 1)
digit_taken ds after rest more part n i u digit e positive h some is text left =
    let next = one_digit_more ds rest part n i u e positive h some in
    let written : after ≡ ds ++ (48 + rest * 10 / u) ∷ [] = text ∙ ap (λ (c : ℕ). ds ++ c ∷ []) is in
    subst (λ (xs : List ℕ). IsSoFar xs more part n (i + 1)) (sym written)
    (subst (λ (k : ℕ). IsSoFar (ds ++ (48 + rest * 10 / u) ∷ []) k part n (i + 1)) (sym left) next)

no_digit_more : (ds : List ℕ) (rest part n i : ℕ) → IsSoFar ds rest part n i → rest ≡ 0 → IsSoFar ds rest part n (i + 1)
no_digit_more ds rest part n i h none = record {
  digits = h.digits;
  value = h.value;
  below = h.below;
  few = omega (arith, h.few);
  going = λ some. absurd (omega arith);
  ended = h.ended;
}

pub none_taken : (ds after : List ℕ) (rest more part n i : ℕ) → IsSoFar ds rest part n i → rest ≡ 0 → after ≡ ds → more ≡ rest → IsSoFar after more part n (i + 1)
none_taken ds after rest more part n i h none text left =
    subst (λ (xs : List ℕ). IsSoFar xs more part n (i + 1)) (sym text)
    (subst (λ (k : ℕ). IsSoFar ds k part n (i + 1)) (sym left) (no_digit_more ds rest part n i h none))

none_left_by : (v part u rest : ℕ) → v * u + rest ≡ part * u → rest < u → (v < part) ⊎ (part ≤ v) → rest ≡ 0
none_left_by v part u rest e less (inl h) =
    let more : (v + 1) * u ≤ part * u = mul-le-mul_right u (let it : v + 1 ≤ part = omega arith in it) in
    let one : (v + 1) * u ≡ v * u + u = omega (arith, add-mul v 1 u) in
    absurd (omega arith)
none_left_by v part u rest e less (inr h) =
    let more : part * u ≤ v * u = mul-le-mul_right u h in
    omega arith

-- nothing is left after n digits
none_left : (ds : List ℕ) (rest part n : ℕ) → IsSoFar ds rest part n n → (0 < rest) ⊎ (rest ≤ 0) → rest ≡ 0
none_left ds rest part n h (inl some) =
    let whole : digits_value 10 ds * 10 ^ n + rest ≡ part * 10 ^ n = h.value ∙ ap (λ (k : ℕ). part * 10 ^ k) (h.going some) in
    none_left_by (digits_value 10 ds) part (10 ^ n) rest whole h.below (cases_lt (digits_value 10 ds) part)
none_left ds rest part n h (inr none) = omega arith

found_all : (ds : List ℕ) (rest part n : ℕ) → IsSoFar ds rest part n n → IsFraction ds part n
found_all ds rest part n h =
    let none = none_left ds rest part n h (cases_lt 0 rest) in
    let ended = h.ended none in
    let value : digits_value 10 ds * 10 ^ n ≡ part * 10 ^ length ds = omega (arith, h.value) in
    ((ended.0, h.digits), value, ended.1)

pub all_digits_found : (ds : List ℕ) (rest part n i : ℕ) → IsSoFar ds rest part n i → i ≡ n → IsFraction ds part n
all_digits_found ds rest part n i h e =
    found_all ds rest part n (subst (λ (k : ℕ). IsSoFar ds rest part n k) e h)

-- ---- what is written is spelled

pub own : IsNumeralModel (λ ds. list_all is_ascii_digit ds ≡ true) (digits_value 10)
own = numerals_by_value _ (search rules)

decimal_digits : (q : ℕ) → q < 2 ^ 64 → IsDigits (decimal q)
decimal_digits q h = (decimal_nonempty q h, digits_decimal own q h)

-- the number of the digits before the point and of those after it
joined_value : (q n size r : ℕ) (ds : List ℕ) → q < 2 ^ 64 → size ≡ q * 10 ^ n + r → digits_value 10 ds * 10 ^ n ≡ r * 10 ^ length ds → digits_value 10 (decimal q ++ ds) * 10 ^ 0 * 10 ^ n ≡ size * 10 ^ (length ds + 0)
joined_value q n size r ds h split e =
    let u : ℕ = 10 ^ n in
    let p : ℕ = 10 ^ length ds in
    let w : ℕ = digits_value 10 ds in
    let front : digits_value 10 (decimal q) ≡ q = digits_value-decimal own q h in
    let whole : digits_value 10 (decimal q ++ ds) ≡ q * p + w = after_append 0 (decimal q) ds ∙ after_is (digits_value 10 (decimal q)) ds ∙ ap (λ (k : ℕ). k * p + w) front in
    let none : 10 ^ (length ds + 0) ≡ p = ap (λ (k : ℕ). 10 ^ k) (let it : length ds + 0 ≡ length ds = omega arith in it) in
    let left : digits_value 10 (decimal q ++ ds) * 10 ^ 0 * u ≡ (q * p + w) * u = ap (λ (k : ℕ). k * u) ((let it : digits_value 10 (decimal q ++ ds) * 10 ^ 0 ≡ digits_value 10 (decimal q ++ ds) = omega arith in it) ∙ whole) in
    let e1 : (q * p + w) * u ≡ q * p * u + w * u = add-mul (q * p) w u in
    let e2 : q * p * u ≡ q * u * p = mul_right_comm q p u in
    let e3 : (q * u + r) * p ≡ q * u * p + r * p = add-mul (q * u) r p in
    let right : size * 10 ^ (length ds + 0) ≡ (q * u + r) * p = ap (λ (k : ℕ). size * k) none ∙ ap (λ (k : ℕ). k * p) split in
    left ∙ (let it : (q * p + w) * u ≡ (q * u + r) * p = omega arith in it) ∙ sym right

-- the decimal of a text without its sign is the number over 10^n
same_value : (minus : Bool) (q n size r : ℕ) (ds : List ℕ) → q < 2 ^ 64 → size ≡ q * 10 ^ n + r → digits_value 10 ds * 10 ^ n ≡ r * 10 ^ length ds → let x = decimal_of minus (decimal q) ds 0 0 in x.whole *ℤ pos (10 ^ n) ≡ signed minus size *ℤ pos (10 ^ x.places)
same_value minus q n size r ds h split e =
    signed_times minus (digits_value 10 (decimal q ++ ds) * 10 ^ 0) (10 ^ n)
    ∙ ap (signed minus) (joined_value q n size r ds h split e)
    ∙ sym (signed_times minus size (10 ^ (length ds + 0)))

plain_text : (minus : Bool) (q : ℕ) → q < 2 ^ 64 → IsUnsignedText (decimal q) minus (decimal_of minus (decimal q) [] 0 0)
plain_text minus q h =
    (decimal q, [], sym (append-nil (decimal q)), decimal q, [], (decimal_digits q h, inl (refl, refl)), 0, 0, (refl, refl), refl)

pointed_text : (minus : Bool) (q : ℕ) (ds : List ℕ) → q < 2 ^ 64 → IsDigits ds → IsUnsignedText (decimal q ++ 46 ∷ ds) minus (decimal_of minus (decimal q) ds 0 0)
pointed_text minus q ds h digits =
    (decimal q ++ 46 ∷ ds, [], sym (append-nil (decimal q ++ 46 ∷ ds)), decimal q, ds, (decimal_digits q h, inr (refl, digits)), 0, 0, (refl, refl), refl)

-- the text of a sign and of what is written after it
with_sign_text : (minus : Bool) (q : ℕ) (text rest : List ℕ) (x : Fraction) → text ≡ (if minus then 45 ∷ decimal q else decimal q) ++ rest → IsUnsignedText (decimal q ++ rest) minus x → IsTextOf text x
with_sign_text true q text rest x e h = inr (decimal q ++ rest, e, h)
with_sign_text false q text rest x e h = inl (subst (λ (t : List ℕ). IsUnsignedText t false x) (sym e) h)

spells_by : (text : List ℕ) (z : ℤ) (n q r : ℕ) → q < 2 ^ 64 → unsigned_abs z ≡ q * 10 ^ n + r → IsBehind (front_text z q) text r n → Spells text z n
spells_by text z n q r h split (inl w) =
    let minus : Bool = int_lt z (pos 0) in
    let x : Fraction = decimal_of minus (decimal q) [] 0 0 in
    let none : 0 * 10 ^ n ≡ r * 10 ^ 0 = omega (arith, w.0) in
    let text_is = w.1 ∙ sym (append-nil (front_text z q)) in
    let spelled = subst (λ (t : List ℕ). IsUnsignedText t minus x) (sym (append-nil (decimal q))) (plain_text minus q h) in
    (x, with_sign_text minus q text [] x text_is spelled, same_value minus q n (unsigned_abs z) r [] h split none ∙ ap (λ (y : ℤ). y *ℤ pos (10 ^ x.places)) (with_its_sign z))
spells_by text z n q r h split (inr (ds, e, f)) =
    let minus : Bool = int_lt z (pos 0) in
    let x : Fraction = decimal_of minus (decimal q) ds 0 0 in
    (x, with_sign_text minus q text (46 ∷ ds) x e (pointed_text minus q ds h f.0), same_value minus q n (unsigned_abs z) r ds h split f.1 ∙ ap (λ (y : ℤ). y *ℤ pos (10 ^ x.places)) (with_its_sign z))

pub spells : (text : List ℕ) (z : ℤ) (n : ℕ) → unsigned_abs z < 2 ^ 64 → IsWrittenAs text z n → Spells text z n
spells text z n h w =
    let split : unsigned_abs z / 10 ^ n * 10 ^ n + unsigned_abs z % 10 ^ n ≡ unsigned_abs z = div-add-mod' (unsigned_abs z) (10 ^ n) in
    let most : unsigned_abs z / 10 ^ n ≤ unsigned_abs z = div-le_self (unsigned_abs z) (10 ^ n) in
    spells_by text z n (unsigned_abs z / 10 ^ n) (unsigned_abs z % 10 ^ n) (omega arith) (sym split) w
