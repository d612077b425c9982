-- A label has one ending at most: an ending has no point but its first byte.
use Rattle.std.proofs.Common.{◌≡◌, ℕ, ◌+◌, ◌-◌, ◌<◌, ◌≤◌, Bool, true, false, not, List, ◌∷◌, ◌++◌, length, take, drop, get_or, refl, sym, ap, ◌∙◌, inl, inr, arith, length-append}
use Rattle.std.specs.Char.{is_ascii_digit}
use Rattle.std.specs.Fmt.{decimal}
use Rattle.std.specs.List.{list_all}
use Rattle.std.proofs.lemmas.Bool.{and_from, cases_lt, false≢true}
use Rattle.std.proofs.lemmas.Fmt.{digits_decimal}
use Rattle.std.proofs.lemmas.List.{take_at, drop_at, get_or-drop}
use Rattle.std.proofs.lemmas.List.Folds.{list_all_at, list_all-append}
use Rattle.std.proofs.lemmas.Option.{same_Some}
use Rattle.canary_decimal.specs.declared.shown.Beside.{Beside}
use Rattle.canary_decimal.specs.declared.shown.Beside.TheVariants.{Nothing, NaN, Infinite, Null, FloatText, WholeText}
use Rattle.canary_decimal.specs.declared.shown.Units.{Units}
use Rattle.canary_decimal.specs.Reader.{is_either}
use Rattle.canary_decimal.specs.Endings.{IsShape, beside_text, IsEnding, IsLabelOf, units_of}
use Rattle.canary_decimal.proofs.EndingLemmas.{ending_read}
use Rattle.canary_decimal.proofs.PointLemmas.{own}
use Rattle.canary_decimal.proofs.ReadsAll.{each_without, digit_no_point}

abbrev is_no_point : ℕ → Bool
is_no_point b = not (is_either 46 46 b)

no_points : (ds : List ℕ) → list_all is_ascii_digit ds ≡ true → list_all is_no_point ds ≡ true
no_points ds all = each_without (is_either 46 46) digit_no_point ds all

shape_plain : (l : Bool) (shape : List ℕ) → IsShape l shape → list_all is_no_point shape ≡ true
shape_plain false shape (inl e) = ap (list_all is_no_point) e
shape_plain false shape (inr (inl e)) = ap (list_all is_no_point) e
shape_plain false shape (inr (inr (ds, digits, e))) = ap (list_all is_no_point) e ∙ no_points ds digits.1
shape_plain true shape (ds, digits, e) = ap (list_all is_no_point) e ∙ no_points ds digits.1

beside_plain : (beside : Beside) (shape : List ℕ) → list_all is_no_point shape ≡ true → list_all is_no_point (beside_text beside ++ shape) ≡ true
beside_plain Nothing shape h = h
beside_plain NaN shape h = h
beside_plain Infinite shape h = h
beside_plain Null shape h = h
beside_plain FloatText shape h = h
beside_plain WholeText shape h = h

tail_plain : (u : Units) (shape : List ℕ) → u.places ≤ 18 → IsShape u.length shape → list_all is_no_point (decimal u.places ++ (beside_text u.beside ++ shape)) ≡ true
tail_plain u shape few h =
    let digits = digits_decimal own u.places (omega arith) in
    list_all-append is_no_point (decimal u.places) (beside_text u.beside ++ shape)
    ∙ and_from (list_all is_no_point (decimal u.places)) (list_all is_no_point (beside_text u.beside ++ shape))
    (no_points (decimal u.places) digits) (beside_plain u.beside shape (shape_plain u.length shape h))

-- after its first byte an ending has no point
no_point_at : (ending rest : List ℕ) (i : ℕ) → ending ≡ 46 ∷ rest → list_all is_no_point rest ≡ true → 0 < i → i < length ending → get_or ending i 0 ≡ 46 → ⊥
no_point_at ending rest i e all some within at =
    let j : ℕ = i - 1 in
    let shorter : j < length rest = omega (arith, ap length e) in
    let place : 1 + j ≡ i = omega arith in
    let there : get_or rest j 0 ≡ 46 = get_or-drop 1 (46 ∷ rest) j 0 ∙ ap (λ (k : ℕ). get_or (46 ∷ rest) k 0) place ∙ ap (λ (t : List ℕ). get_or t i 0) (sym e) ∙ at in
    let no : is_no_point (get_or rest j 0) ≡ false = ap is_no_point there in
    false≢true (sym (list_all_at is_no_point rest j 0 shorter no) ∙ all)

-- no ending begins after another one of the same label
not_behind : (label first second a b : List ℕ) (u v : Units) → label ≡ first ++ a → label ≡ second ++ b → IsEnding a u → IsEnding b v → length first < length second → ⊥
not_behind label first second a b u v ea eb (low, few, (shape, is_shape, e)) (_, _, (other, is_other, f)) less =
    let k : ℕ = length second - length first in
    let place : length first + k ≡ length second = omega arith in
    let front : drop (length first) label ≡ a = ap (drop (length first)) ea ∙ drop_at first a (length first) refl in
    let back : drop (length second) label ≡ b = ap (drop (length second)) eb ∙ drop_at second b (length second) refl in
    let nothing : length second + 0 ≡ length second = omega arith in
    let at : get_or label (length second) 0 ≡ 46 = ap (λ (i : ℕ). get_or label i 0) (sym nothing) ∙ sym (get_or-drop (length second) label 0 0) ∙ ap (λ (t : List ℕ). get_or t 0 0) (back ∙ f) in
    let there : get_or a k 0 ≡ 46 = ap (λ (t : List ℕ). get_or t k 0) (sym front) ∙ get_or-drop (length first) label k 0 ∙ ap (λ (i : ℕ). get_or label i 0) place ∙ at in
    let whole : length first + length a ≡ length second + length b = sym (length-append first a) ∙ ap length (sym ea ∙ eb) ∙ length-append second b in
    let some : 0 < length b = omega (arith, ap length f) in
    no_point_at a (101 ∷ (decimal u.places ++ (beside_text u.beside ++ shape))) k e (tail_plain u shape few is_shape) (omega arith) (omega arith) there

pub one_ending : (label first second : List ℕ) (u v : Units) → IsLabelOf label first u → IsLabelOf label second v → (first ≡ second) × (u ≡ v)
one_ending label first second u v (_, (a, ea, is)) (_, (b, eb, so)) =
    elim (cases_lt (length first) (length second)) [
      | inl less ↦ absurd (not_behind label first second a b u v ea eb is so less)
      | inr more ↦
          elim (cases_lt (length second) (length first)) [
            | inl less ↦ absurd (not_behind label second first b a v u eb ea so is less)
            | inr also ↦
                let same : length first ≡ length second = omega arith in
                let names : first ≡ second = sym (take_at first a (length first) refl) ∙ ap (take (length first)) (sym ea ∙ eb) ∙ take_at second b (length first) (sym same) in
                let ends : a ≡ b = sym (drop_at first a (length first) refl) ∙ ap (drop (length first)) (sym ea ∙ eb) ∙ drop_at second b (length first) (sym same) in
                (names, same_Some u v (sym (ending_read a u is) ∙ ap units_of ends ∙ ending_read b v so))
          ]
    ]
