-- An escaped text is harmless, byte for byte.
use Rattle.std.proofs.Common.{◌≡◌, ◌==◌, ◌&&◌, ℕ, Bool, true, false, List, [], ◌∷◌, ◌++◌, codes, refl}
use Rattle.std.specs.Prelude.{if◌then◌else◌}
use Rattle.std.specs.List.{list_all}
use Rattle.canary_page_html.specs.Escaping.{escaped, escaped_byte, is_control, is_harmless}

-- what stands for a byte, by what is known of it
chosen : (amp lt gt quote mark control : Bool) → ℕ → List ℕ
chosen amp lt gt quote mark control byte =
    if amp then codes "&amp;"
    else (if lt then codes "&lt;"
    else (if gt then codes "&gt;"
    else (if quote then codes "&quot;"
    else (if mark then codes "&#39;"
    else (if control then 239 ∷ 191 ∷ 189 ∷ [] else byte ∷ [])))))

chosen_harmless : (byte : ℕ) (amp lt gt quote mark control : Bool) → byte == 60 ≡ lt → byte == 62 ≡ gt → byte == 34 ≡ quote → byte == 39 ≡ mark
    → is_control byte ≡ control → list_all is_harmless (chosen amp lt gt quote mark control byte) ≡ true
unfolding chosen
chosen_harmless byte true lt gt quote mark control a b c d e = refl
chosen_harmless byte false true gt quote mark control a b c d e = refl
chosen_harmless byte false false true quote mark control a b c d e = refl
chosen_harmless byte false false false true mark control a b c d e = refl
chosen_harmless byte false false false false true control a b c d e = refl
chosen_harmless byte false false false false false true a b c d e = refl
chosen_harmless byte false false false false false false a b c d e = rw (a, b, c, d, e) refl

byte_harmless : (byte : ℕ) → list_all is_harmless (escaped_byte byte) ≡ true
unfolding chosen
byte_harmless byte =
    chosen_harmless byte (byte == 38) (byte == 60) (byte == 62) (byte == 34) (byte == 39) (is_control byte) refl refl refl refl refl

-- two harmless texts, one after another
both : (xs ys : List ℕ) → list_all is_harmless xs ≡ true → list_all is_harmless ys ≡ true → list_all is_harmless (xs ++ ys) ≡ true
both [] ys p q = q
both (x ∷ xs) ys p q = go (is_harmless x) p (λ rest. both xs ys rest q)
  where
    go : (b : Bool) → b && list_all is_harmless xs ≡ true → (list_all is_harmless xs ≡ true → list_all is_harmless (xs ++ ys) ≡ true)
        → b && list_all is_harmless (xs ++ ys) ≡ true
    go true rest more = more rest
    go false rest more = cc

pub escaped_harmless : (text : List ℕ) → list_all is_harmless (escaped text) ≡ true
escaped_harmless [] = refl
escaped_harmless (x ∷ xs) = both (escaped_byte x) (escaped xs) (byte_harmless x) (escaped_harmless xs)
