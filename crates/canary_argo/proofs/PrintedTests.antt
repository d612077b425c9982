-- The text of one comparison of the desk is read as the tokens that it is made of.
use Rattle.std.proofs.Common.{◌≡◌, ℕ, zero, suc, ◌+◌, ◌-◌, ◌^◌, ◌<◌, ℤ, Bool, true, false, pos, negsuc, List, [], ◌∷◌, ◌++◌, length, drop, cond, Option, Some, None, refl, sym, ap, ◌∙◌, subst, append_assoc, arith, rules}
use Rattle.std.specs.Prelude.{◌&&◌, ◌==◌, nat_lt, nat_le, if◌then◌else◌, option_map, codes}
use Rattle.std.specs.Char.{is_ascii_digit}
use Rattle.std.specs.List.{list_all, prefix_len}
use Rattle.std.specs.Fmt.{decimal, signed_decimal}
use Rattle.std.specs.Int.RustNames.{unsigned_abs}
use Rattle.std.specs.Str.Parse.{digits_value}
use Rattle.std.proofs.lemmas.Bool.{false≢true, and_parts, and_from, le-leb, lt-ltb, ltb-true, eqb-true}
use Rattle.std.proofs.lemmas.Bool.Decides.{nat_tests}
use Rattle.std.proofs.lemmas.Fmt.{digits_decimal, digits_value-decimal, decimal_nonempty}
use Rattle.std.proofs.lemmas.List.{take_at, drop_at}
use Rattle.std.proofs.lemmas.Option.{none-some, same_Some, cond_some}
use Rattle.std.proofs.lemmas.Str.Parse.{IsNumeralModel, numerals_by_value}
use Rattle.canary_condition.specs.declared.condition.Comparison.{Comparison}
use Rattle.canary_condition.specs.declared.condition.Comparison.TheVariants.{Equal, NotEqual, Less, AtMost, Greater, AtLeast}
use Rattle.canary_condition.specs.declared.condition.Operand.{Operand}
use Rattle.canary_condition.specs.declared.condition.Operand.TheVariants.{Whole as WholeOperand, Item as ItemOperand, Number as NumberOperand}
use Rattle.canary_condition.specs.declared.token.Token.{Token}
use Rattle.canary_condition.specs.declared.token.Token.TheVariants.{Compares, Open, Close, OpenItem, CloseItem, ResultWord, Digits, Minus, OutOfRange}
use Rattle.canary_condition.specs.Tokens.{is_blank, is_word_byte, front_word, is_number, digits_token, minus_token, keyword_token, word_token, negative_token, with_bytes, front_token, front_symbol, tokens_after}
use Rattle.canary_decimal.specs.declared.decimal.ShortDecimal.{ShortDecimal}
use Rattle.canary_decimal.specs.Exactness.{signed, Fraction, IsConstant}
use Rattle.canary_decimal.specs.Short.{fraction_of, short_constant, ShortConstants}
use Rattle.canary_argo.specs.declared.condition.ResultPart.{ResultPart}
use Rattle.canary_argo.specs.declared.condition.ResultPart.TheVariants.{Whole, Item as ItemPlace, Length as LengthPlace}
use Rattle.canary_argo.specs.declared.condition.Test.{Test}
use Rattle.canary_argo.specs.declared.form.Form.{Form}
use Rattle.canary_argo.specs.declared.form.Shape.{Shape}
use Rattle.canary_argo.specs.declared.form.Shape.TheVariants.{One, First, Several, Length as LengthShape}
use Rattle.canary_argo.specs.declared.translating.DeskTest.{DeskTest}
use Rattle.canary_argo.specs.Translating.{desk_place, in_turn, constant_of, length_of, constant_at, made, desk_test, operand_text, sign_text, test_text, fits}

-- ---- one token after the other

-- no word goes on there
abbrev pub EndsWord : List ℕ → Type 0
EndsWord [] = Unit {0}
EndsWord (b ∷ rest) = is_word_byte b ≡ false

abbrev pub IsLexed : List ℕ → List Token → Type 0
IsLexed text ts = tokens_after 0 text ≡ Some ts

passed : (n : ℕ) (text : List ℕ) → tokens_after n text ≡ tokens_after 0 (drop n text)
passed zero text = refl
passed (suc n) [] = refl
passed (suc n) (b ∷ text) = passed n text

step : (b : ℕ) (text : List ℕ) (t : Token) (n : ℕ) (rest : List ℕ) (us : List Token) → is_blank b ≡ false → front_token (b ∷ text) ≡ Some (t, suc n) → drop n text ≡ rest → IsLexed rest us → IsLexed (b ∷ text) (t ∷ us)
step b text t n rest us blank e behind h =
    let f : Option (Token × ℕ) → Option (List Token) = λ (r : Option (Token × ℕ)). elim r [ None ↦ None | Some front ↦ option_map (λ (ts : List Token). front.0 ∷ ts) (tokens_after (front.1 - 1) text) ] in
    let one : suc n - 1 ≡ n = omega arith in
    ap (λ (r : Bool). elim r [ true ↦ tokens_after 0 text | false ↦ f (front_token (b ∷ text)) ]) blank ∙ ap f e ∙ ap (λ (k : ℕ). option_map (λ (ts : List Token). t ∷ ts) (tokens_after k text)) one
    ∙ ap (option_map (λ (ts : List Token). t ∷ ts)) (passed n text ∙ ap (tokens_after 0) behind ∙ h)

run_len : (ws rest : List ℕ) → list_all is_word_byte ws ≡ true → EndsWord rest → length ws ≡ prefix_len is_word_byte (ws ++ rest)
run_len [] [] all ends = refl
run_len [] (b ∷ rest) all ends = ap (λ (t : Bool). cond t (1 + prefix_len is_word_byte rest) 0) (sym ends)
run_len (w ∷ ws) rest all ends =
    let parts = and_parts (is_word_byte w) (list_all is_word_byte ws) all in
    let first = ap (λ (t : Bool). cond t (1 + prefix_len is_word_byte (ws ++ rest)) 0) parts.0 in
    let more = run_len ws rest parts.1 ends in
    omega arith

word_kept : (ws rest : List ℕ) → list_all is_word_byte ws ≡ true → EndsWord rest → front_word (ws ++ rest) ≡ ws
word_kept ws rest all ends = take_at ws rest (prefix_len is_word_byte (ws ++ rest)) (run_len ws rest all ends)

word_no_blank : (b : ℕ) → is_word_byte b ≡ true → is_blank b ≡ false
word_no_blank b h = grind (arith, nat_tests)

-- a word
word_lexed : (w : ℕ) (ws rest : List ℕ) (t : Token) (us : List Token) → list_all is_word_byte (w ∷ ws) ≡ true → word_token (w ∷ ws) ≡ Some t → EndsWord rest → IsLexed rest us → IsLexed ((w ∷ ws) ++ rest) (t ∷ us)
word_lexed w ws rest t us all is ends h =
    let first = (and_parts (is_word_byte w) (list_all is_word_byte ws) all).0 in
    let text : List ℕ = ws ++ rest in
    let other : Option (Token × ℕ) = if w == 45 then with_bytes (suc (length (front_word text))) (negative_token (front_word text)) else front_symbol (w ∷ text) in
    let front : front_token (w ∷ text) ≡ Some (t, suc (length ws)) =
    ap (λ (b : Bool). if b then with_bytes (length (front_word (w ∷ text))) (word_token (front_word (w ∷ text))) else other) first
    ∙ ap (λ (word : List ℕ). with_bytes (length word) (word_token word)) (word_kept (w ∷ ws) rest all ends)
    ∙ ap (with_bytes (suc (length ws))) is in
    step w text t (length ws) rest us (word_no_blank w first) front (drop_at ws rest (length ws) refl) h

-- ---- numbers

own : IsNumeralModel (λ ds. list_all is_ascii_digit ds ≡ true) (digits_value 10)
own = numerals_by_value _ (search rules)

digit_word : (b : ℕ) → is_ascii_digit b ≡ true → is_word_byte b ≡ true
digit_word b h = grind (arith, nat_tests)

digits_word : (ds : List ℕ) → list_all is_ascii_digit ds ≡ true → list_all is_word_byte ds ≡ true
digits_word [] all = refl
digits_word (d ∷ ds) all =
    let parts = and_parts (is_ascii_digit d) (list_all is_ascii_digit ds) all in
    and_from (is_word_byte d) (list_all is_word_byte ds) (digit_word d parts.0) (digits_word ds parts.1)

number_is : (n : ℕ) → n < 2 ^ 64 → is_number (decimal n) ≡ true
number_is n h = and_from (nat_lt 0 (length (decimal n))) (list_all is_ascii_digit (decimal n)) (lt-ltb 0 (length (decimal n)) (decimal_nonempty n h)) (digits_decimal own n h)

digits_lexed : (word rest : List ℕ) (n : ℕ) (us : List Token) → is_number word ≡ true → digits_value 10 word ≡ n → n < 2 ^ 63 → EndsWord rest → IsLexed rest us → IsLexed (word ++ rest) (Digits (pos n) ∷ us)
digits_lexed [] rest n us number value small ends h = absurd (false≢true number)
digits_lexed (d ∷ ds) rest n us number value small ends h =
    let parts = and_parts (nat_lt 0 (length (d ∷ ds))) (list_all is_ascii_digit (d ∷ ds)) number in
    let fits : nat_le n (2 ^ 63 - 1) ≡ true = le-leb n (2 ^ 63 - 1) (omega arith) in
    let is : word_token (d ∷ ds) ≡ Some (Digits (pos n)) =
    ap (λ (b : Bool). if b then Some (digits_token (digits_value 10 (d ∷ ds))) else keyword_token (d ∷ ds)) number
    ∙ ap (λ (k : ℕ). Some (digits_token k)) value ∙ ap (λ (b : Bool). let r : Option Token = Some (if b then Digits (pos n) else OutOfRange) in r) fits in
    word_lexed d ds rest (Digits (pos n)) us (digits_word (d ∷ ds) parts.1) is ends h

minus_lexed : (word rest : List ℕ) (n : ℕ) (us : List Token) → is_number word ≡ true → digits_value 10 word ≡ suc n → n < 2 ^ 63 → EndsWord rest → IsLexed rest us → IsLexed (45 ∷ (word ++ rest)) (Minus (negsuc n) ∷ us)
minus_lexed word rest n us number value small ends h =
    let parts = and_parts (nat_lt 0 (length word)) (list_all is_ascii_digit word) number in
    let all = digits_word word parts.1 in
    let fits : nat_le (suc n) (2 ^ 63) ≡ true = le-leb (suc n) (2 ^ 63) (omega arith) in
    let front : front_token (45 ∷ (word ++ rest)) ≡ Some (Minus (negsuc n), suc (length word)) =
    ap (λ (w : List ℕ). with_bytes (suc (length w)) (negative_token w)) (word_kept word rest all ends)
    ∙ ap (λ (b : Bool). with_bytes (suc (length word)) (if b then Some (minus_token (digits_value 10 word)) else None)) number
    ∙ ap (λ (k : ℕ). with_bytes (suc (length word)) (Some (minus_token k))) value
    ∙ ap (λ (b : Bool). with_bytes (suc (length word)) (Some (if b then Minus (negsuc n) else OutOfRange))) fits in
    step 45 (word ++ rest) (Minus (negsuc n)) (length word) rest us refl front (drop_at word rest (length word) refl) h

abbrev pub number_token : ℤ → Token
number_token (pos n) = Digits (pos n)
number_token (negsuc n) = Minus (negsuc n)

abbrev pub Small : ℤ → Type 0
Small (pos n) = n < 2 ^ 63
Small (negsuc n) = n < 2 ^ 63

number_lexed : (z : ℤ) (rest : List ℕ) (us : List Token) → Small z → EndsWord rest → IsLexed rest us → IsLexed (signed_decimal z ++ rest) (number_token z ∷ us)
number_lexed (pos n) rest us small ends h =
    digits_lexed (decimal n) rest n us (number_is n (omega arith)) (digits_value-decimal own n (omega arith)) small ends h
number_lexed (negsuc n) rest us small ends h =
    minus_lexed (decimal (suc n)) rest n us (number_is (suc n) (omega arith)) (digits_value-decimal own (suc n) (omega arith)) small ends h

-- ---- symbols

pub open_lexed : (rest : List ℕ) (us : List Token) → IsLexed rest us → IsLexed (40 ∷ rest) (Open ∷ us)
open_lexed [] us h = ap (option_map (λ (ts : List Token). Open ∷ ts)) h
open_lexed (b ∷ rest) us h = ap (option_map (λ (ts : List Token). Open ∷ ts)) h

pub close_lexed : (rest : List ℕ) (us : List Token) → IsLexed rest us → IsLexed (41 ∷ rest) (Close ∷ us)
close_lexed [] us h = ap (option_map (λ (ts : List Token). Close ∷ ts)) h
close_lexed (b ∷ rest) us h = ap (option_map (λ (ts : List Token). Close ∷ ts)) h

open_item_lexed : (rest : List ℕ) (us : List Token) → IsLexed rest us → IsLexed (91 ∷ rest) (OpenItem ∷ us)
open_item_lexed [] us h = ap (option_map (λ (ts : List Token). OpenItem ∷ ts)) h
open_item_lexed (b ∷ rest) us h = ap (option_map (λ (ts : List Token). OpenItem ∷ ts)) h

close_item_lexed : (rest : List ℕ) (us : List Token) → IsLexed rest us → IsLexed (93 ∷ rest) (CloseItem ∷ us)
close_item_lexed [] us h = ap (option_map (λ (ts : List Token). CloseItem ∷ ts)) h
close_item_lexed (b ∷ rest) us h = ap (option_map (λ (ts : List Token). CloseItem ∷ ts)) h

sign_lexed : (c : Comparison) (rest : List ℕ) (us : List Token) → IsLexed rest us → IsLexed (sign_text c ++ rest) (Compares c ∷ us)
sign_lexed Equal rest us h = ap (option_map (λ (ts : List Token). Compares Equal ∷ ts)) h
sign_lexed NotEqual rest us h = ap (option_map (λ (ts : List Token). Compares NotEqual ∷ ts)) h
sign_lexed Less rest us h = ap (option_map (λ (ts : List Token). Compares Less ∷ ts)) h
sign_lexed AtMost rest us h = ap (option_map (λ (ts : List Token). Compares AtMost ∷ ts)) h
sign_lexed Greater rest us h = ap (option_map (λ (ts : List Token). Compares Greater ∷ ts)) h
sign_lexed AtLeast rest us h = ap (option_map (λ (ts : List Token). Compares AtLeast ∷ ts)) h

sign_ends : (c : Comparison) (rest : List ℕ) → EndsWord (sign_text c ++ rest)
sign_ends Equal rest = refl
sign_ends NotEqual rest = refl
sign_ends Less rest = refl
sign_ends AtMost rest = refl
sign_ends Greater rest = refl
sign_ends AtLeast rest = refl

-- ---- comparisons

abbrev pub operand_tokens : Operand → List Token
operand_tokens WholeOperand = ResultWord ∷ []
operand_tokens (ItemOperand i) = ResultWord ∷ OpenItem ∷ Digits (pos i) ∷ CloseItem ∷ []
operand_tokens (NumberOperand z) = number_token z ∷ []

abbrev pub SmallOperand : Operand → Type 0
SmallOperand WholeOperand = Unit {0}
SmallOperand (ItemOperand i) = i < 2 ^ 63
SmallOperand (NumberOperand z) = Small z

operand_lexed : (o : Operand) (rest : List ℕ) (us : List Token) → SmallOperand o → EndsWord rest → IsLexed rest us → IsLexed (operand_text o ++ rest) (operand_tokens o ++ us)
operand_lexed WholeOperand rest us small ends h = word_lexed 114 (codes "esult") rest ResultWord us refl refl ends h
operand_lexed (ItemOperand i) rest us small ends h =
    let number : IsLexed (decimal i ++ (93 ∷ rest)) (Digits (pos i) ∷ CloseItem ∷ us) = number_lexed (pos i) (93 ∷ rest) (CloseItem ∷ us) small refl (close_item_lexed rest us h) in
    let again : IsLexed ((decimal i ++ codes "]") ++ rest) (Digits (pos i) ∷ CloseItem ∷ us) = ap (tokens_after 0) (append_assoc (decimal i) (codes "]") rest) ∙ number in
    word_lexed 114 (codes "esult") (91 ∷ ((decimal i ++ codes "]") ++ rest)) ResultWord (OpenItem ∷ Digits (pos i) ∷ CloseItem ∷ us) refl refl refl (open_item_lexed ((decimal i ++ codes "]") ++ rest) (Digits (pos i) ∷ CloseItem ∷ us) again)
operand_lexed (NumberOperand z) rest us small ends h = number_lexed z rest us small ends h

abbrev pub test_tokens : Option DeskTest → List Token
test_tokens None = []
test_tokens (Some d) = operand_tokens d.operand ++ Compares d.comparison ∷ number_token d.constant ∷ []

abbrev pub IsSmall : DeskTest → Type 0
IsSmall d = SmallOperand d.operand × Small d.constant

pub test_lexed : (d : DeskTest) (rest : List ℕ) (us : List Token) → IsSmall d → EndsWord rest → IsLexed rest us → IsLexed (test_text (Some d) ++ rest) (test_tokens (Some d) ++ us)
test_lexed d rest us small ends h =
    let text : List ℕ = signed_decimal d.constant ++ rest in
    let number = number_lexed d.constant rest us small.1 ends h in
    let sign = sign_lexed d.comparison text (number_token d.constant ∷ us) number in
    let all = operand_lexed d.operand (sign_text d.comparison ++ text) (Compares d.comparison ∷ number_token d.constant ∷ us) small.0 (sign_ends d.comparison text) sign in
    ap (tokens_after 0) (append_assoc (operand_text d.operand) (sign_text d.comparison ++ signed_decimal d.constant) rest ∙ ap (λ (r : List ℕ). operand_text d.operand ++ r) (append_assoc (sign_text d.comparison) (signed_decimal d.constant) rest))
    ∙ all ∙ ap (λ (r : List Token). Some r) (sym (append_assoc (operand_tokens d.operand) (Compares d.comparison ∷ number_token d.constant ∷ []) us))

-- ---- what a desk's comparison is made of

pub made_is : (c : Comparison) (o : Option Operand) (k : Option ℤ) (d : DeskTest) → made c o k ≡ Some d → (o ≡ Some d.operand) × ((c ≡ d.comparison) × (k ≡ Some d.constant))
made_is c None k d e = absurd (none-some d e)
made_is c (Some o) None d e = absurd (none-some d e)
made_is c (Some o) (Some k) d e =
    let same = same_Some (record { operand = o; comparison = c; constant = k }) d e in
    (ap (λ (t : DeskTest). Some t.operand) same, (ap (λ (t : DeskTest). t.comparison) same, ap (λ (t : DeskTest). Some t.constant) same))

pub desk_is : (form : Form) (t : Test) (d : DeskTest) → desk_test form t ≡ Some d → (desk_place form.shape t.look.place ≡ Some d.operand) × ((in_turn t.turned t.comparison ≡ d.comparison) × (constant_at t.look.place t.amount.number form.places ≡ Some d.constant))
desk_is form t d e = made_is (in_turn t.turned t.comparison) (desk_place form.shape t.look.place) (constant_at t.look.place t.amount.number form.places) d e

option_guarded : (b : Bool) (o : Option ℤ) (z : ℤ) → (if b then o else None) ≡ Some z → (b ≡ true) × (o ≡ Some z)
option_guarded true o z e = (refl, e)
option_guarded false o z e = absurd (none-some z e)

pub constant_is : ShortConstants → (n : ShortDecimal) (places : ℕ) (z : ℤ) → constant_of n places ≡ Some z → IsConstant z (fraction_of n) places
constant_is law n places z e =
    let found = option_guarded (nat_lt n.places places && nat_le places 18) (short_constant n places) z e in
    let more = (and_parts (nat_lt n.places places) (nat_le places 18) found.0).0 in
    law n places z (ltb-true n.places places more) found.1

small_signed : (s : Bool) (n : ℕ) → n < 2 ^ 63 → Small (signed s n)
small_signed true zero h = h
small_signed true (suc n) h = omega arith
small_signed false n h = h

pub constant_small : (z : ℤ) (y : Fraction) (n : ℕ) → IsConstant z y n → Small z
constant_small z y n (minus, tens, e, fits, exact) = subst Small (sym e) (small_signed minus _ fits)

-- the constant of a length
pub length_is : (n : ShortDecimal) (z : ℤ) → length_of n ≡ Some z → (n.places ≡ 0) × ((n.whole ≡ z) × (unsigned_abs n.whole < 10 ^ 15))
length_is n z e =
    let found = cond_some (n.places == 0 && nat_lt (unsigned_abs n.whole) (10 ^ 15)) n.whole z e in
    let parts = and_parts (n.places == 0) (nat_lt (unsigned_abs n.whole) (10 ^ 15)) found.0 in
    let none : n.places ≡ 0 = eqb-true n.places 0 parts.0 in
    (none, (found.1, ltb-true (unsigned_abs n.whole) (10 ^ 15) parts.1))

small_size : (z : ℤ) → unsigned_abs z < 10 ^ 15 → Small z
small_size (pos n) h = omega arith
small_size (negsuc n) h = omega arith

small_at : ShortConstants → (p : ResultPart) (n : ShortDecimal) (places : ℕ) (z : ℤ) → constant_at p n places ≡ Some z → Small z
small_at law Whole n places z e = constant_small z (fraction_of n) places (constant_is law n places z e)
small_at law (ItemPlace i) n places z e = constant_small z (fraction_of n) places (constant_is law n places z e)
small_at law LengthPlace n places z e = let parts = length_is n z e in subst Small parts.1.0 (small_size n.whole parts.1.1)

pub place_small : (shape : Shape) (p : ResultPart) (o : Operand) → desk_place shape p ≡ Some o → SmallOperand o
place_small One Whole o e = subst SmallOperand (same_Some WholeOperand o e) tt
place_small One LengthPlace o e = absurd (none-some o e)
place_small First LengthPlace o e = absurd (none-some o e)
place_small (Several most) LengthPlace o e = absurd (none-some o e)
place_small (LengthShape most) Whole o e = absurd (none-some o e)
place_small (LengthShape most) LengthPlace o e =
    let small : SmallOperand (ItemOperand 0) = omega arith in
    subst SmallOperand (same_Some (ItemOperand 0) o e) small
place_small (LengthShape most) (ItemPlace i) o e =
    let found = cond_some (nat_lt i most && nat_lt most 16) (ItemOperand (suc i)) o e in
    let parts = and_parts (nat_lt i most) (nat_lt most 16) found.0 in
    let less = ltb-true i most parts.0 in
    let few = ltb-true most 16 parts.1 in
    let small : SmallOperand (ItemOperand (suc i)) = omega arith in
    subst SmallOperand found.1 small
place_small One (ItemPlace i) o e = absurd (none-some o e)
place_small First Whole o e = absurd (none-some o e)
place_small First (ItemPlace i) o e = subst SmallOperand (cond_some (i == 0) WholeOperand o e).1 tt
place_small (Several most) Whole o e = absurd (none-some o e)
place_small (Several most) (ItemPlace i) o e =
    let found = cond_some (nat_lt i most && nat_lt most 17) (ItemOperand i) o e in
    let parts = and_parts (nat_lt i most) (nat_lt most 17) found.0 in
    let less = ltb-true i most parts.0 in
    let few = ltb-true most 17 parts.1 in
    let small : SmallOperand (ItemOperand i) = omega arith in
    subst SmallOperand found.1 small

pub desk_small : ShortConstants → (form : Form) (t : Test) (d : DeskTest) → desk_test form t ≡ Some d → IsSmall d
desk_small law form t d e =
    let parts = desk_is form t d e in
    (place_small form.shape t.look.place d.operand parts.0, small_at law t.look.place t.amount.number form.places d.constant parts.1.1)
