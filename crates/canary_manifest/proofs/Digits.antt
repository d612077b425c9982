-- What `parse` reads of a text of digits.
use Rattle.std.proofs.Common.{◌≡◌, ℕ, ◌<◌, ◌^◌, List, [], ◌∷◌, length, Bool, true, false, true≢false, ◌&&◌, Result, IsTrue, refl, sym, ap, ◌∙◌}
use Rattle.std.specs.Prelude.{nat_lt, Ok, Err}
use Rattle.std.specs.Char.{is_ascii_digit}
use Rattle.std.specs.List.{list_all}
use Rattle.std.specs.Result.{OkIff}
use Rattle.std.specs.Str.{all_ascii_digits}
use Rattle.std.specs.Str.Parse.{ParsesUnsigned, digits_value}
use Rattle.std.proofs.lemmas.Bool.{ltb-true}
use Rattle.std.proofs.lemmas.Str.Parse.{IsNumeralModel, numerals_by_value, tells_all_ascii_digits, parse_digits}
use Rattle.canary_manifest.specs.Members.{is_digits}

model : IsNumeralModel (λ ds. all_ascii_digits ds ≡ true) (digits_value 10)
model = numerals_by_value (λ ds. all_ascii_digits ds ≡ true) tells_all_ascii_digits

all_digits : (ds : List ℕ) → list_all is_ascii_digit ds ≡ all_ascii_digits ds
all_digits [] = refl
all_digits (d ∷ ds) = ap (λ rest. is_ascii_digit d && rest) (all_digits ds)

without_some : {T E : Type 0} (r : Result T E) (P Q : Type 0) (v : T) → P → OkIff r (P × Q) v → OkIff r Q v
without_some (Ok n) P Q v p h = (h.0.1, h.1)
without_some (Err e) P Q v p h = λ q. h (p, q)

both : (a b : Bool) → (a && b) ≡ true → (a ≡ true) × (b ≡ true)
both true b e = (refl, e)
both false b e = absurd (true≢false (sym e))

pub parses : {E : Type 0} (text : List ℕ) (r : Result ℕ E) → ParsesUnsigned 32 10 text r → IsTrue (is_digits text) → OkIff r (digits_value 10 text < 2 ^ 32) (digits_value 10 text)
parses text r p h =
    let is = both (nat_lt 0 (length text)) (list_all is_ascii_digit text) h in
    without_some r _ _ _ (ltb-true 0 (length text) is.0) (parse_digits model 32 text r p (sym (all_digits text) ∙ is.1))
