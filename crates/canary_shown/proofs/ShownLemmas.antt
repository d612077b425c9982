-- A shown text has no mark, and one without marks is itself.
use Rattle.std.proofs.Common.{◌≡◌, ◌&&◌, ◌<◌, ◌/◌, ◌%◌, ◌+◌, ℕ, Bool, true, false, not, List, [], ◌∷◌, ◌++◌, refl, sym, ap, ap₂, ◌∙◌, arith, true≢false}
use Rattle.std.specs.Prelude.{if◌then◌else◌, nat_lt, encode_utf8_all}
use Rattle.std.specs.List.{list_all}
use Rattle.std.proofs.lemmas.Bool.Decides.{nat_tests}
use Rattle.std.proofs.lemmas.Grind.{flat_map-append}
use Rattle.std.proofs.lemmas.List.{append-nil}
use Rattle.std.proofs.lemmas.Str.{encodes-append}
use Rattle.canary_shown.specs.declared.text.TextKind.{TextKind}
use Rattle.canary_shown.specs.Showing.{is_mark, is_plain, is_space_in, hex_digit, escape, shown_char, shown_chars, NoneIsAMark, PlainIsItself}

both : (xs ys : List ℕ) → list_all is_plain xs ≡ true → list_all is_plain ys ≡ true → list_all is_plain (xs ++ ys) ≡ true
both [] ys p q = q
both (x ∷ xs) ys p q = go (is_plain x) p (λ rest. both xs ys rest q)
  where
    go : (b : Bool) → b && list_all is_plain xs ≡ true → (list_all is_plain xs ≡ true → list_all is_plain (xs ++ ys) ≡ true)
        → b && list_all is_plain (xs ++ ys) ≡ true
    go true rest more = more rest
    go false rest more = absurd (true≢false (sym rest))

parts : (a b : Bool) → a && b ≡ true → (a ≡ true) × (b ≡ true)
parts true b e = (refl, e)
parts false b e = absurd (true≢false (sym e))

-- a digit is 0 to 9 or a to f
digit_plain : (d : ℕ) → d < 16 → is_plain (hex_digit d) ≡ true
digit_plain d h = chosen (nat_lt d 10) refl
  where
    chosen : (b : Bool) → nat_lt d 10 ≡ b → is_plain (if b then 48 + d else 87 + d) ≡ true
    chosen true e = grind (arith, nat_tests, h, e)
    chosen false e = grind (arith, nat_tests, h, e)

escape_plain : (code : ℕ) → list_all is_plain (escape code) ≡ true
escape_plain code =
    rw (digit_plain (code / 4096 % 16) (omega arith), digit_plain (code / 256 % 16) (omega arith), digit_plain (code / 16 % 16) (omega arith), digit_plain (code % 16) (omega arith)) refl

char_plain : (form : TextKind) (code : ℕ) → list_all is_plain (shown_char form code) ≡ true
char_plain form code = chosen (is_mark code) refl (is_space_in form code)
  where
    chosen : (mark : Bool) → is_mark code ≡ mark → (space : Bool) → list_all is_plain (if not mark then code ∷ [] else (if space then 32 ∷ [] else escape code)) ≡ true
    chosen false e space = rw e refl
    chosen true e true = refl
    chosen true e false = escape_plain code

pub none_is_a_mark : NoneIsAMark
none_is_a_mark form [] = refl
none_is_a_mark form (c ∷ cs) = both (shown_char form c) (shown_chars form cs) (char_plain form c) (none_is_a_mark form cs)

char_itself : (form : TextKind) (code : ℕ) → is_plain code ≡ true → shown_char form code ≡ code ∷ []
char_itself form code h = ap (λ b. if b then code ∷ [] else (if is_space_in form code then 32 ∷ [] else escape code)) h

pub plain_is_itself : PlainIsItself
plain_is_itself form [] h = refl
plain_is_itself form (c ∷ cs) h =
    let p = parts (is_plain c) (list_all is_plain cs) h in ap₂ (λ x y. x ++ y) (char_itself form c p.0) (plain_is_itself form cs p.1)

-- the text of the characters so far, with that of one character more
pub one_more : (form : TextKind) (cs : List ℕ) (c : ℕ) (before after : List ℕ) → before ≡ encode_utf8_all (shown_chars form cs)
    → after ≡ before ++ encode_utf8_all (shown_char form c) → after ≡ encode_utf8_all (shown_chars form (cs ++ c ∷ []))
one_more form cs c before after so_far added =
    let joined : shown_chars form (cs ++ c ∷ []) ≡ shown_chars form cs ++ shown_char form c = flat_map-append (shown_char form) cs (c ∷ []) ∙ ap (λ last. shown_chars form cs ++ last) (append-nil (shown_char form c)) in
    added ∙ (ap (λ text. text ++ encode_utf8_all (shown_char form c)) so_far ∙ (sym (encodes-append (shown_chars form cs) (shown_char form c)) ∙ sym (ap encode_utf8_all joined)))
